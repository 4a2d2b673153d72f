-- `message_writers::u_location_update_demand::addresses` meets its contract. Assumes nothing.
use Rattle.bits.specs.DigitsLaws.{no_digits, ◌▹◌}
use Rattle.std.proofs.Common.{append-nil, append_assoc}
use Rattle.messages.specs.Description.{options_bits}
use Rattle.message_writers.proofs.PartsLaws.{holds-as}
use Rattle.message_writers.proofs.u_location_update_demand.addresses.Goals as goal

pub returns : goal.returns
unfolding options_bits
returns c = holds-as (no_digits ▹ c.then_type2.ensures ▹ c.then_type2-2.ensures) (simp (append_assoc, append-nil))
