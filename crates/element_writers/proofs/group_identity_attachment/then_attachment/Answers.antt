-- `element_writers::group_identity_attachment::then_attachment` meets its contract. Assumes nothing.
use Rattle.bits.specs.DigitsLaws.{joined-twice}
use Rattle.elements.specs.Groups.{attachment_bits}
use Rattle.element_writers.specs.GroupParts.{no-digits}
use Rattle.element_writers.proofs.group_identity_attachment.then_attachment.Goals as goal

pub returns-in-Some : goal.returns-in-Some
unfolding attachment_bits
returns-in-Some c = rw c.in-Some.is (joined-twice c.then.ensures c.then-in-Some.ensures)

pub returns-in-None : goal.returns-in-None
returns-in-None c = rw (c.in-None.is, ← no-digits 0) c.then-in-None.ensures
