-- `exports::flat::ULocationUpdateDemandFlat::fill` meets its contract: its length by the groups shown, and its parts one after the other.
use native.Mathlib.Omega.{arith}
use mathlib.Core.Bool.{◌&&◌}
use mathlib.Core.Path.{refl, sym}
use borrow.Author.Rules.{rules}
use Rattle.elements.specs.Lists.{each}
use Rattle.messages.specs.Calls.{alone}
use Rattle.messages.specs.declared.Message.TheVariants as M
use Rattle.exports.specs.Flat.{flat_uplink, flat_demand}
use Rattle.exports.specs.FlatLaws.{◌⨟◌, length-shown}
use Rattle.exports.specs.FlatLengths.{no-room, room}
use Rattle.exports.proofs.flat.ULocationUpdateDemandFlat.fill.Goals as goal

pub returns-then-flat-groups : goal.returns-then-flat-groups
returns-then-flat-groups c =
    let a = c.args in
    let no = no-room M.Demand a.skipped (alone M.Demand a.«self») a.flat.now c.shown_of-groups.ensures (omega arith) in
    record { fits = sym no; buffer = rw no }

pub put_demand_options-d-requires : goal.put_demand_options-d-requires
unfolding each
put_demand_options-d-requires c = search rules

pub put_location_demand-e-requires : goal.put_location_demand-e-requires
unfolding each
put_location_demand-e-requires c = search rules

pub put_demand_generics-requires : goal.put_demand_generics-requires
unfolding each
put_demand_generics-requires c =
    let l = c.args.«self».group_identity_location_demand in
    let long = length-shown flat_uplink 46 (λ g. refl) (l.present && l.value.group_identity_uplink.present) l.value.group_identity_uplink.count l.value.group_identity_uplink.groups c.shown_of-groups.ensures.2 in
    let groups = c.shown_of-groups.ensures.0 in
    omega arith

pub returns : goal.returns
unfolding flat_demand
returns c =
    let a = c.args in
    let yes = room M.Demand a.skipped (alone M.Demand a.«self») a.flat.now c.shown_of-groups.ensures (omega arith) in
    let parts = c.put_demand_head-a.ensures ⨟ c.put_class-b.ensures ⨟ c.put_demand_options-d.ensures ⨟ c.put_location_demand-e.ensures ⨟ c.put_demand_generics.ensures in
    record { fits = sym yes; buffer = rw yes parts.octets }
