-- `message_writers::d_location_update_accept::addresses` meets its contract. Assumes nothing.
use Rattle.bits.specs.DigitsLaws.{no_digits, ◌▹◌}
use Rattle.std.proofs.Common.{append-nil}
use Rattle.message_writers.proofs.PartsLaws.{holds-as}
use Rattle.message_writers.proofs.d_location_update_accept.addresses.Goals as goal

pub returns : goal.returns
returns c = holds-as (no_digits ▹ c.then_type2.ensures ▹ c.then_type2-2.ensures) (simp append-nil)
