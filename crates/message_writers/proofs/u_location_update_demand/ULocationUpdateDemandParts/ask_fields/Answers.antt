-- `message_writers::u_location_update_demand::ULocationUpdateDemandParts::ask_fields` meets its contract. Assumes nothing.
use Rattle.std.proofs.Common.{arith}
use Rattle.std.proofs.Math.Bool.{and-true}
use Rattle.messages.specs.Description.{fields_asked}
use Rattle.messages.specs.Demand.{demand, demand_tie}
use Rattle.message_writers.specs.Parts.{fields_size}
use Rattle.message_writers.proofs.PartsLaws.{fields_are}
use Rattle.message_writers.proofs.u_location_update_demand.ULocationUpdateDemandParts.ask_fields.Goals as goal

pub returns : goal.returns
unfolding fields_asked fields_size
returns c = (
  rw (c.within.ensures, c.within-2.ensures, c.within-3.ensures, c.ask_type2.ensures, c.width_if.ensures.0)
      (fields_are demand (demand_tie.values c.args.«self».now).fields (simp and-true) (simp and-true) (omega arith)),
  omega (arith, c.width_if.ensures.1),
)
