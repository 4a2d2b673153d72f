-- `message_writers::group_list::write_group` meets its contract: each field has at most 64 bits.
use Rattle.std.proofs.Common.{arith}
use Rattle.bits.specs.PutsLaws.{field, ◌⨾◌}
use Rattle.element_writers.specs.GroupParts.{option_most, group_front-fits, group_back-fits}
use Rattle.message_writers.proofs.group_list.write_group.Goals as goal

pub returns : goal.returns
returns g c =
    let k = g.L.ListWriter in
    let h = g.met.L.ListWriter in
    let i = c.args.g in
    let few = h.few in
    let most = option_most k.bits k.ATTACHMENT_WIDTH h.wide (k.attachment i) in
    field c.group_front.ensures (group_front-fits k.bits k.forms (k.attachment i) (k.detachment i) (k.address i) (omega arith)) c.put-c1.ensures
    ⨾ field (rw c.address.ensures at c.group_back.ensures) (group_back-fits (k.address i)) c.put.ensures
