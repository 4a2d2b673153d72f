-- `elements::group_list::read_list` meets its contract: by the laws of a list's slot.
use Rattle.std.specs.Prelude.{Bool, Some, replicate}
use Rattle.std.proofs.Common.{sym, ap, ◌∙◌, arith}
use Rattle.bits.specs.Placed.{placed}
use Rattle.bits.specs.PlacedLaws.{Gives, from, refused_by}
use Rattle.elements.specs.Fronts.{list_front}
use Rattle.elements.specs.Lists.{entries_most}
use Rattle.elements.specs.GroupAnswers.{list_answer}
use Rattle.elements.proofs.Verdicts.{answer}
use Rattle.elements.proofs.PlacedOptional.{known}
use Rattle.elements.proofs.PlacedLists.{list_zeros, list_put, no_front_lem, list-absent, group-refused, group-read, list_on, list-whole, list-inexact}
use Rattle.elements.proofs.group_list.read_list.Goals as goal
use Rattle.elements.proofs.group_list.read_list.Goals.{In-Some}

-- the front is read
fronted : (g : _) (c : In-Some g) → let a = c.args in
    Gives (list_front a.identifier a.there) a.octets.now a.c (placed (Some c.in-Some.front) c.in-Ok.first)
fronted g c = known (from c.in-Ok.ensures) c.in-Some.is

pub returns-in_default : goal.returns-in_default
returns-in_default g c =
    let k = g.L.GroupList.kind in
    c.refused.ensures ∙ answer (list_answer k) (no_front_lem k c.args.identifier c.args.there (refused_by c.read_list_front-l.ensures c.unwrap_err.ensures))

pub returns-in_default-front : goal.returns-in_default-front
returns-in_default-front g c =
    let k = g.L.GroupList.kind in
    rw c.no_list.ensures (answer (list_answer k) (list-absent k c.args.identifier c.args.there (known (from c.in-Ok.ensures) c.in_default-front.is)))

pub loop-i-init : goal.loop-i-init
loop-i-init g c =
    let k = g.L.GroupList.kind in
    let there = λ (p : Bool). k.make p c.in-Some.front.count (replicate entries_most k.zero) in
    list_zeros k g.met.L.GroupList.made (c.zeros.ensures ∙ ap there (grind arith))

pub returns-in_default-f : goal.returns-in_default-f
returns-in_default-f g c =
    let k = g.L.GroupList.kind in
    c.refused-in_default-f.ensures ∙ answer (list_answer k) (group-refused k g.met.L.GroupList.local _ _ (fronted g (goal.at.returns-in_default-f g c).In-Some)
    c.loop-i.invariant.filled c.loop-i-test.true (refused_by c.read_group-f.ensures c.unwrap_err-in_default-f.ensures))

pub loop-i-preserved : goal.loop-i-preserved
loop-i-preserved g c =
    let k = g.L.GroupList.kind in
    let i = c.loop-i.invariant in
    list_put k g.met.L.GroupList.made i.whole c.put.ensures
    (group-read k g.met.L.GroupList.local _ _ (fronted g (goal.at.loop-i-preserved g c).In-Some) i.filled c.loop-i-test.true (from c.in-Ok-f.ensures))

pub overflow_sub-place : goal.overflow_sub-place
overflow_sub-place g c =
    list_on g.L.GroupList.kind g.met.L.GroupList.local _ _ (fronted g (goal.at.overflow_sub-place g c).In-Some) c.loop-i.invariant.filled c.loop-i-test.false

pub returns-then-place-first : goal.returns-then-place-first
returns-then-place-first g c =
    let k = g.L.GroupList.kind in
    answer (list_answer k)
    (known (list-whole k g.met.L.GroupList.local _ _ (fronted g (goal.at.returns-then-place-first g c).In-Some) c.loop-i.invariant.filled c.loop-i-test.false c.if-place-first.true)
    (sym c.loop-i.invariant.whole))

pub returns : goal.returns
returns g c =
    let k = g.L.GroupList.kind in
    c.refused-2.ensures ∙ answer (list_answer k) (list-inexact k g.met.L.GroupList.local _ _ (fronted g (goal.at.returns g c).In-Some) c.loop-i.invariant.filled c.loop-i-test.false c.if-place-first.false)
