-- `message_writers::group_list::write_nested` meets its contract.
use Rattle.std.proofs.Common.{sym, ◌∙◌}
use Rattle.bits.specs.Written.{bits_in}
use Rattle.bits.specs.DigitsLaws.{behind}
use Rattle.bits.specs.PutsLaws.{field}
use Rattle.element_writers.specs.GroupParts.{group_parts}
use Rattle.element_writers.specs.WrittenElements.{flag_fits, nested-there, nested-absent}
use Rattle.message_writers.proofs.group_list.write_nested.Goals as goal

pub returns-then-listed : goal.returns-then-listed
returns-then-listed g c =
    let k = g.L.ListWriter in
    let a = c.args in
    nested-there g.L.GroupList.kind (group_parts k.bits k.forms k.attachment k.detachment k.address) k.IDENTIFIER (bits_in a.front) a.size a.list.now (sym c.presence-listed.ensures ∙ c.if-listed.true)
    (field (behind (rw c.presence-listed.ensures at c.then.ensures)) (flag_fits a.front _ c.requires) c.put-c1.ensures)
    (rw c.IDENTIFIER.ensures at c.write_list-c2.ensures) c.write_closing_mbit.ensures

pub returns : goal.returns
returns g c =
    let k = g.L.ListWriter in
    let a = c.args in
    nested-absent g.L.GroupList.kind (group_parts k.bits k.forms k.attachment k.detachment k.address) k.IDENTIFIER (bits_in a.front) a.size a.list.now
    (sym c.presence-listed.ensures ∙ c.if-listed.false)
    (field (behind (rw c.presence-listed.ensures at c.then.ensures)) (flag_fits a.front _ c.requires) c.put-c1.ensures)
