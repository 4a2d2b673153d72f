-- `elements::typed_pdu_fields::read_slot_front` meets its contract: by the laws of a slot, whose content is its length.
use Rattle.bits.specs.Reader.{got, word}
use Rattle.bits.specs.ReaderLaws.{local·rules, local_tail, field-local}
use Rattle.bits.specs.PlacedLaws.{so, from, handed_up, step, stop, done}
use Rattle.elements.specs.Fronts.{slot_front}
use Rattle.elements.proofs.PlacedTable.{alone, same-as, other-than, slot-outside, slot-absent, slot-there}
use Rattle.elements.proofs.typed_pdu_fields.read_slot_front.Goals as goal

pub returns-in_err-id : goal.returns-in_err-id
unfolding slot_front
returns-in_err-id c = handed_up _ c.from_residual.ensures.1 (alone (slot-outside (λ i. i) (λ i n. got n) c.args.identifier got (from c.in_err-id.ensures)))

pub returns-in_err-len : goal.returns-in_err-len
unfolding word slot_front
returns-in_err-len c =
    handed_up _ c.from_residual-in_err-len.ensures.1
    (alone (slot-there (λ i. i) (λ i n. got n) c.args.identifier got (from c.in_ok-id.ensures) (same-as _ c.if-eq.ensures) (stop _ (stop _ (from c.in_err-len.ensures)))))

pub returns-then-eq : goal.returns-then-eq
unfolding word slot_front
returns-then-eq c =
    so (alone (slot-there (λ i. i) (λ i n. got n) c.args.identifier got (from c.in_ok-id.ensures) (same-as _ c.if-eq.ensures)
    (step _ (step _ (from c.in_ok-len.ensures) (local_tail (field-local 11)) done) (search local·rules) done)))

pub returns : goal.returns
unfolding slot_front
returns c =
    so (alone (slot-absent (λ i. i) (λ i n. got n) c.args.identifier got (from c.in_ok-id.ensures) (other-than _ c.if-eq.ensures) done))
