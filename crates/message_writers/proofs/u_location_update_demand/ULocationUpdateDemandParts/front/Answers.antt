-- `message_writers::u_location_update_demand::ULocationUpdateDemandParts::front` meets its contract. Assumes nothing.
use Rattle.std.proofs.Common.{arith, append_assoc}
use Rattle.bits.specs.DigitsLaws.{no_digits, ◌▹◌}
use Rattle.messages.specs.Description.{fields_bits}
use Rattle.messages.specs.Demand.{demand, demand_tie}
use Rattle.message_writers.specs.Parts.{fields_size}
use Rattle.message_writers.proofs.PartsLaws.{cond-most, front_length, holds-as}
use Rattle.message_writers.proofs.u_location_update_demand.ULocationUpdateDemandParts.front.Goals as goal

pub returns : goal.returns
unfolding fields_bits fields_size
returns c = (
  holds-as (no_digits ▹ c.then-t.ensures ▹ c.then-u.ensures ▹ c.then-a.ensures ▹ c.then-c.ensures ▹ c.then_if-p.ensures ▹ c.then.ensures) (simp append_assoc),
  omega (arith, front_length demand (demand_tie.values c.args.«self».now).fields c.args.obit, cond-most c.args.«self».now.ciphering_parameters.present 10),
)
