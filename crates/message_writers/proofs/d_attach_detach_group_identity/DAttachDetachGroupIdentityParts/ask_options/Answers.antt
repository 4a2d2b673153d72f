-- `message_writers::d_attach_detach_group_identity::DAttachDetachGroupIdentityParts::ask_options` meets its contract. Assumes nothing.
use Rattle.std.specs.Prelude.{refl}
use Rattle.std.proofs.Common.{arith}
use Rattle.messages.specs.Description.{options_asked}
use Rattle.message_writers.specs.Parts.{options_size}
use Rattle.message_writers.proofs.d_attach_detach_group_identity.DAttachDetachGroupIdentityParts.ask_options.Goals as goal

pub returns : goal.returns
unfolding options_asked options_size
returns c = (refl, omega arith)
