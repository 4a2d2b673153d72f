-- `message_writers::u_location_update_demand::ULocationUpdateDemandParts::write_options` meets its contract: the type 2 elements in two fields. Assumes nothing.
use Rattle.std.proofs.Common.{arith}
use Rattle.bits.specs.PutsLaws.{field, ◌⨾◌}
use Rattle.messages.specs.Demand.{demand, demand_tie}
use Rattle.messages.specs.declared.Message.TheVariants as M
use Rattle.messages.proofs.ReadBack.{all_sound}
use Rattle.message_writers.proofs.PartsLaws.{two-joined, first-most, last-most}
use Rattle.message_writers.proofs.WritesLaws.{as_one}
use Rattle.message_writers.proofs.u_location_update_demand.ULocationUpdateDemandParts.write_options.Goals as goal

pub returns : goal.returns
returns c =
    let os = (demand_tie.values c.args.«self».now).options in
    as_one _ (λ i. (c.slice_known-1.given i).fits) (two-joined 3 demand.options os) c.requires
    (field c.class_mode_and_la.ensures (omega (arith, first-most 3 demand.options (all_sound M.Demand) os)) c.put-c1.ensures
    ⨾ field c.addresses.ensures (omega (arith, last-most 3 demand.options (all_sound M.Demand) os)) c.put.ensures)
