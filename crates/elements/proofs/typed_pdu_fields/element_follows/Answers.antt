-- `elements::typed_pdu_fields::element_follows` meets its contract: the opening is what the look sees.
use Rattle.bits.specs.PlacedLaws.{so, from, handed_up, done}
use Rattle.elements.specs.Rows.{element_follows}
use Rattle.elements.proofs.PlacedTable.{follows-unseen, follows-not, follows_there}
use Rattle.elements.proofs.typed_pdu_fields.element_follows.Goals as goal

pub returns-in_err-id : goal.returns-in_err-id
returns-in_err-id c = rw c.if-announced.true (handed_up _ c.from_residual.ensures.1 (follows-unseen (from c.in_err-id.ensures)))

pub returns-in-Some : goal.returns-in-Some
returns-in-Some c = rw c.if-announced.true (so (follows_there (from c.in_ok-id.ensures) c.in-Some.is))

pub returns-in-None : goal.returns-in-None
returns-in-None c = rw c.if-announced.true (so (follows-not (from c.in_ok-id.ensures) c.in-None.is))

pub returns : goal.returns
unfolding element_follows
returns c = rw c.if-announced.false (so done)
