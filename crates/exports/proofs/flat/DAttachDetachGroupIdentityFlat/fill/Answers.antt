-- `exports::flat::DAttachDetachGroupIdentityFlat::fill` meets its contract: its length by the groups shown, and its parts one after the other.
use native.Mathlib.Omega.{arith}
use mathlib.Core.Path.{refl, sym}
use Rattle.elements.specs.Lists.{each}
use Rattle.messages.specs.Calls.{alone}
use Rattle.messages.specs.declared.Message.TheVariants as M
use Rattle.exports.specs.Flat.{flat_downlink, flat_attach_detach}
use Rattle.exports.specs.FlatLaws.{◌⨟◌, length-shown}
use Rattle.exports.specs.FlatLengths.{no-room, room}
use Rattle.exports.proofs.flat.DAttachDetachGroupIdentityFlat.fill.Goals as goal

pub returns-then-flat-groups : goal.returns-then-flat-groups
returns-then-flat-groups c =
    let a = c.args in
    let no = no-room M.AttachDetach a.skipped (alone M.AttachDetach a.«self») a.flat.now c.shown_of-groups.ensures (omega arith) in
    record { fits = sym no; buffer = rw no }

pub put_type4-requires : goal.put_type4-requires
unfolding each
put_type4-requires c =
    let l = c.args.«self».group_identity_downlink in
    let long = length-shown flat_downlink 56 (λ g. refl) (l.present) l.count l.groups c.shown_of-groups.ensures.2 in
    let groups = c.shown_of-groups.ensures.0 in
    omega arith

pub returns : goal.returns
unfolding flat_attach_detach
returns c =
    let a = c.args in
    let yes = room M.AttachDetach a.skipped (alone M.AttachDetach a.«self») a.flat.now c.shown_of-groups.ensures (omega arith) in
    let parts = c.put_attach_detach_head-a.ensures ⨟ c.put_type3-b.ensures ⨟ c.put_type3-d.ensures ⨟ c.put_list-e.ensures ⨟ c.put_type4.ensures in
    record { fits = sym yes; buffer = rw yes parts.octets }
