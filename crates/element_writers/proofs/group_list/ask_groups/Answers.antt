-- `element_writers::group_list::ask_groups` meets its contract.
use Rattle.std.proofs.Common.{arith, ◌∙◌}
use Rattle.elements.specs.Lists.{all, each}
use Rattle.element_writers.specs.GroupsAsked.{asked-more, none_asked}
use Rattle.element_writers.proofs.group_list.ask_groups.Goals as goal

pub loop-g-init : goal.loop-g-init
unfolding all each
loop-g-init g c = (none_asked g.L.GroupList.kind, omega arith)

pub loop-g-preserved : goal.loop-g-preserved
loop-g-preserved g c =
    let l = c.loop-g in
    let few = c.ask_group.ensures.1 in
    (c.and-asked.ensures ∙ asked-more g.L.GroupList.kind c.args.groups.now l.g-index c.loop-g-test.true c.g-item.is l.invariant.0 c.ask_group.ensures.0, rw c.and-asked.ensures (omega arith))
