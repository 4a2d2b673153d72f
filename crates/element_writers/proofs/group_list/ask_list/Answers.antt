-- `element_writers::group_list::ask_list` meets its contract.
use Rattle.std.proofs.Common.{arith, sym, ◌∙◌}
use Rattle.element_writers.specs.GroupsAsked.{list-asked, no_list-asked}
use Rattle.element_writers.proofs.group_list.ask_list.Goals as goal

pub returns-then-presence : goal.returns-then-presence
returns-then-presence g c =
    let few = c.ask_groups.ensures.1 in
    let room = c.groups.ensures.few in
    let is = rw (c.count_asked.ensures, c.count.ensures) at c.and.ensures in (
      is ∙ list-asked g.L.GroupList.kind c.args.list.now (sym c.presence.ensures ∙ c.if-presence.true) (rw c.groups.ensures.groups at c.ask_groups.ensures.0),
      rw is (omega arith),
    )

pub returns : goal.returns
returns g c = (no_list-asked g.L.GroupList.kind c.args.list.now (sym c.presence.ensures ∙ c.if-presence.false), omega arith)
