-- `exports::flat::put_list` meets its contract.
use native.Mathlib.Omega.{arith}
use mathlib.Core.Path.{◌≡◌}
use Prim.Native.Nat.{◌≤◌, ◌*◌, suc}
use lib.ListN.{take}
use lib.Seq.{take_all}
use Rattle.std.proofs.Math.Nat.{mul-suc, mul-le-mul_left}
use Rattle.exports.specs.Flat.{shown}
use Rattle.exports.specs.FlatLaws.{shown_none, shown-more, shown-put}
use Rattle.exports.proofs.flat.put_list.Goals as goal

pub loop-g-init : goal.loop-g-init
loop-g-init g c = shown_none g.G.FlatGroup.form g.G.FlatGroup.LENGTH (take c.shown_of.result c.args.groups.now) _ _ _

pub put-place-requires : goal.put-place-requires
put-place-requires g c =
    let k = g.G.FlatGroup in
    let l = c.loop-g in
    let i = l.invariant in
    let f = c.put_field-place.ensures in
    let n = c.shown_of.ensures in
    let room = c.requires in
    let more : k.LENGTH * suc l.g-index ≤ k.LENGTH * c.shown_of.result = mul-le-mul_left k.LENGTH (omega arith) in
    let one = mul-suc k.LENGTH l.g-index in
    let all : k.LENGTH * c.shown_of.result ≡ k.LENGTH * shown c.args.present c.args.count = rw n.0 in
    omega (arith, f.next, f.long, i.place, i.things.long)

pub loop-g-preserved : goal.loop-g-preserved
loop-g-preserved g c =
    let k = g.G.FlatGroup in
    let l = c.loop-g in
    shown-more k.form k.LENGTH g.met.G.FlatGroup.long l.invariant c.loop-g-test.true (omega arith) c.g-item.result (rw c.g-item.is at c.put-place.ensures)

pub returns : goal.returns
returns g c =
    let k = g.G.FlatGroup in
    let l = c.loop-g in
    let a = c.args in
    let n = c.shown_of.ensures in
    shown-put k.form a.present a.count a.groups.now c.shown_of.result n.2 n.0 c.put_field-place.ensures
    (rw (take_all l.g-index (take c.shown_of.result a.groups.now) (omega arith)) at l.invariant.things)
