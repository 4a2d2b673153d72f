-- `elements::typed_pdu_fields::skip_if` meets its contract. Assumes nothing.
use Rattle.bits.specs.PlacedLaws.{so, done}
use Rattle.elements.proofs.typed_pdu_fields.skip_if.Goals as goal

pub returns-then-wanted : goal.returns-then-wanted
returns-then-wanted c =
    rw c.if-wanted.true c.skip_unlisted.ensures

pub returns : goal.returns
returns c =
    rw c.if-wanted.false (so done)
