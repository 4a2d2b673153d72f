-- `message_writers::group_list::write_list` meets its contract.
use Rattle.bits.specs.DigitsLaws.{◌▹◌}
use Rattle.bits.specs.PutsLaws.{field, ◌⨾◌}
use Rattle.element_writers.specs.WrittenElements.{list_front-fits}
use Rattle.message_writers.proofs.group_list.write_list.Goals as goal

pub returns : goal.returns
returns g c =
    let a = c.args in
    field (rw c.count.ensures at (c.element_header-h.ensures ▹ c.then.ensures)) (list_front-fits a.identifier a.size (g.L.GroupList.kind.count a.list.now)) c.put-c1.ensures
    ⨾ (rw c.groups.ensures.groups at c.write_groups.ensures)
