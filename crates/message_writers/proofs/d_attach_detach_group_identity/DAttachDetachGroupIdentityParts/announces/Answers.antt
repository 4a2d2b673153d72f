-- `message_writers::d_attach_detach_group_identity::DAttachDetachGroupIdentityParts::announces` meets its contract. Assumes nothing.
use Rattle.std.proofs.Math.Bool.{or-false}
use Rattle.messages.specs.Head.{any_present}
use Rattle.messages.specs.Description.{any_option, more}
use Rattle.message_writers.proofs.PartsLaws.{slot-present}
use Rattle.message_writers.proofs.d_attach_detach_group_identity.DAttachDetachGroupIdentityParts.announces.Goals as goal

pub returns : goal.returns
unfolding more any_option any_present
returns c = simp (slot-present, or-false)
