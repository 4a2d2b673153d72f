-- `message_writers::d_attach_detach_group_identity::DAttachDetachGroupIdentityParts::write_options` meets its contract: there are none. Assumes nothing.
use Rattle.std.specs.Prelude.{refl}
use Rattle.bits.specs.Written.{joined}
use Rattle.bits.specs.PutsLaws.{nothing}
use Rattle.messages.specs.Description.{options_bits}
use Rattle.message_writers.proofs.WritesLaws.{as_one}
use Rattle.message_writers.proofs.d_attach_detach_group_identity.DAttachDetachGroupIdentityParts.write_options.Goals as goal

pub returns : goal.returns
unfolding options_bits joined
returns c = as_one _ (λ i. (c.type_inv._octets i).fits) refl c.requires nothing
