-- `elements::group_identity_attachment::read_optional_attachment` meets its contract: its two numbers are one field.
use Rattle.std.specs.Prelude.{Some, None}
use Rattle.bits.specs.Reader.{word}
use Rattle.bits.specs.ReaderLaws.{local_tail, field-local}
use Rattle.bits.specs.Placed.{window}
use Rattle.bits.specs.PlacedLaws.{so, from, handed_up, step, stop, done}
use Rattle.bits.specs.PlacedTimes.{alike}
use Rattle.elements.specs.TraitLaws.{attachment_info-local}
use Rattle.elements.proofs.GroupsLaws.{attachment-word}
use Rattle.elements.proofs.PlacedOptional.{wanted-refused, wanted_read, unwanted}
use Rattle.elements.proofs.group_identity_attachment.read_optional_attachment.Goals as goal

pub returns-in_err-v : goal.returns-in_err-v
unfolding word
returns-in_err-v c =
    handed_up _ c.from_residual.ensures.1
    (wanted-refused Some None _ c.if-wanted.true (alike _ (attachment-word (window _ _)) (stop _ (from c.in_err-v.ensures))))

pub returns-then-wanted : goal.returns-then-wanted
unfolding word
returns-then-wanted c =
    so
    (wanted_read Some None _ c.if-wanted.true (local_tail attachment_info-local)
    (alike _ (attachment-word (window _ _)) (step _ (from c.in_ok-v.ensures) (local_tail (field-local 5)) done)))

pub returns : goal.returns
returns c = so (unwanted Some None _ c.if-wanted.false)
