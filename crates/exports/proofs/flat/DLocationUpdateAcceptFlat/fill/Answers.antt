-- `exports::flat::DLocationUpdateAcceptFlat::fill` meets its contract: its length by the groups shown, and its parts one after the other.
use native.Mathlib.Omega.{arith}
use mathlib.Core.Bool.{◌&&◌}
use mathlib.Core.Path.{refl, sym}
use Rattle.elements.specs.Lists.{each}
use Rattle.messages.specs.Calls.{alone}
use Rattle.messages.specs.declared.Message.TheVariants as M
use Rattle.exports.specs.Flat.{flat_downlink, flat_accept}
use Rattle.exports.specs.FlatLaws.{◌⨟◌, length-shown}
use Rattle.exports.specs.FlatLengths.{no-room, room}
use Rattle.exports.proofs.flat.DLocationUpdateAcceptFlat.fill.Goals as goal

pub returns-then-flat-groups : goal.returns-then-flat-groups
returns-then-flat-groups c =
    let a = c.args in
    let no = no-room M.Accept a.skipped (alone M.Accept a.«self») a.flat.now c.shown_of-groups.ensures (omega arith) in
    record { fits = sym no; buffer = rw no }

pub put_accept_generics-requires : goal.put_accept_generics-requires
unfolding each
put_accept_generics-requires c =
    let l = c.args.«self».group_identity_location_accept in
    let long = length-shown flat_downlink 56 (λ g. refl) (l.present && l.value.group_identity_downlink.present) l.value.group_identity_downlink.count l.value.group_identity_downlink.groups c.shown_of-groups.ensures.2 in
    let groups = c.shown_of-groups.ensures.0 in
    omega arith

pub returns : goal.returns
unfolding flat_accept
returns c =
    let a = c.args in
    let yes = room M.Accept a.skipped (alone M.Accept a.«self») a.flat.now c.shown_of-groups.ensures (omega arith) in
    let parts = c.put_accept_head-a.ensures ⨟ c.put_accept_front-b.ensures ⨟ c.put_location_accept-d.ensures ⨟ c.put_accept_generics.ensures in
    record { fits = sym yes; buffer = rw yes parts.octets }
