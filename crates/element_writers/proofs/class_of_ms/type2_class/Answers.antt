-- `element_writers::class_of_ms::type2_class` meets its contract. Assumes nothing.
use mathlib.Core.List.{append-nil}
use Rattle.bits.specs.Bits.{digits}
use Rattle.bits.specs.DigitsLaws.{no_digits, ◌▹◌}
use Rattle.element_writers.proofs.class_of_ms.type2_class.Goals as goal

pub returns : goal.returns
returns c = rw (c.if-o.false, append-nil (digits 1 0)) (no_digits ▹ c.then.ensures)
