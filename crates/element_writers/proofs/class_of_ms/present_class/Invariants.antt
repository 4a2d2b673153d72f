-- `element_writers::class_of_ms::present_class` meets its contract. The loop's invariant: the fields so far stand behind the P-bit.
use Rattle.std.specs.Prelude.{◌++◌, length, take}
use Rattle.bits.specs.Bits.{digits}
use Rattle.bits.specs.Written.{Holds}
use Rattle.elements.specs.ClassOfMs.{class_widths, class_fields, numbers_bits}
use Rattle.element_writers.proofs.class_of_ms.present_class.Given as goal

abbrev pub invariant-loop-value : goal.invariant-loop-value
invariant-loop-value l =
    let n = length l.yielded in
    Holds l.d (digits 1 1 ++ numbers_bits (take n class_widths) (take n (class_fields l.fn.m)))
