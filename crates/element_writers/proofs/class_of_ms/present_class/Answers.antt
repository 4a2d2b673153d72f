-- `element_writers::class_of_ms::present_class` meets its contract.
use Rattle.std.specs.Prelude.{◌≡◌, length}
use mathlib.Core.List.{append-nil}
use Rattle.std.proofs.lemmas.List.{length_push}
use Rattle.std.proofs.lemmas.Slice.Zip.{zip_turn, zip_end}
use Rattle.bits.specs.Bits.{digits}
use Rattle.bits.specs.DigitsLaws.{no_digits, ◌▹◌}
use Rattle.elements.specs.ClassOfMs.{class_widths, class_fields, class_bits, numbers_bits}
use Rattle.elements.proofs.ClassOfMsLaws.{one_number}
use Rattle.element_writers.proofs.class_of_ms.present_class.Goals as goal

pub loop-value-init : goal.loop-value-init
unfolding numbers_bits
loop-value-init c = rw (append-nil (digits 1 1)) (no_digits ▹ c.then-d.ensures)

pub loop-value-preserved : goal.loop-value-preserved
loop-value-preserved c =
    let l = c.loop-value in
    let vs = class_fields c.args.m in
    let t = zip_turn vs class_widths l.yielded _ _ c.next.new.self _ (cc) (cc) l.yielded_by _ c.in-Some.is c.next.ensures.steps in
    rw (length_push l.yielded (c.in-Some.value, c.in-Some.width))
    (one_number (digits 1 1) class_widths vs (length l.yielded) 0 0 t.1 t.0 l.invariant (rw (t.2 0, t.3 0) at c.then-d-in-loop-value.ensures))

pub returns : goal.returns
unfolding class_bits
returns c =
    let l = c.loop-value in
    let all : length l.yielded ≡ 22 = zip_end (class_fields c.args.m) class_widths l.yielded _ _ c.next.new.self _ (cc) (cc) l.yielded_by c.in-None.is c.next.ensures.steps in
    rw all at l.invariant
