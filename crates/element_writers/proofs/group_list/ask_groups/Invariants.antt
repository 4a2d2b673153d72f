-- `element_writers::group_list::ask_groups` meets its contract. The loop's invariant: the groups so far are asked.
use Rattle.std.specs.Prelude.{◌≡◌, ◌*◌, ◌≤◌, take}
use Rattle.element_writers.specs.GroupsAsked.{asked_each}
use Rattle.element_writers.proofs.group_list.ask_groups.Given as goal

abbrev pub invariant-loop-g : goal.invariant-loop-g
invariant-loop-g g l = (l.asked ≡ asked_each g.L.GroupList.kind (take l.g-index l.groups)) × (l.asked.size ≤ 82 * l.g-index)
