-- `message_writers::d_attach_detach_group_identity::DAttachDetachGroupIdentityParts::front` meets its contract. Assumes nothing.
use Rattle.std.proofs.Common.{arith, append_assoc}
use Rattle.bits.specs.DigitsLaws.{no_digits, ◌▹◌}
use Rattle.messages.specs.Description.{fields_bits}
use Rattle.messages.specs.AttachDetach.{attach_detach, attach_detach_tie}
use Rattle.message_writers.specs.Parts.{fields_size}
use Rattle.message_writers.proofs.PartsLaws.{front_length, holds-as}
use Rattle.message_writers.proofs.d_attach_detach_group_identity.DAttachDetachGroupIdentityParts.front.Goals as goal

pub returns : goal.returns
unfolding fields_bits fields_size
returns c = (
  holds-as (no_digits ▹ c.then-t.ensures ▹ c.then-r.ensures ▹ c.then-a.ensures ▹ c.then-m.ensures ▹ c.then.ensures) (simp append_assoc),
  omega (arith, front_length attach_detach (attach_detach_tie.values c.args.«self».now).fields c.args.obit),
)
