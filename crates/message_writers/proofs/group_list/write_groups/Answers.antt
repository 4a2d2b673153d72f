-- `message_writers::group_list::write_groups` meets its contract.
use Rattle.bits.specs.PutsLaws.{nothing}
use Rattle.elements.specs.Lists.{each}
use Rattle.element_writers.specs.GroupParts.{group_parts, each-one}
use Rattle.message_writers.proofs.group_list.write_groups.Goals as goal

pub loop-g-init : goal.loop-g-init
unfolding each
loop-g-init g c = nothing

pub loop-g-preserved : goal.loop-g-preserved
loop-g-preserved g c =
    let k = g.L.ListWriter in
    let l = c.loop-g in
    each-one (group_parts k.bits k.forms k.attachment k.detachment k.address) c.args.groups.now l.g-index c.loop-g-test.true c.g-item.is l.invariant c.write_group-place.ensures
