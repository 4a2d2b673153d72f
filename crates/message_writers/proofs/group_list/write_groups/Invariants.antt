-- `message_writers::group_list::write_groups` meets its contract. The loop's invariant: the groups so far are written.
use Rattle.std.specs.Prelude.{take}
use Rattle.bits.specs.Written.{spot}
use Rattle.bits.specs.PutsLaws.{Puts}
use Rattle.elements.specs.Lists.{each}
use Rattle.element_writers.specs.GroupParts.{group_parts}
use Rattle.message_writers.proofs.group_list.write_groups.Given as goal

abbrev pub invariant-loop-g : goal.invariant-loop-g
invariant-loop-g g l =
    let k = g.L.ListWriter in
    Puts (each (group_parts k.bits k.forms k.attachment k.detachment k.address) (take l.g-index l.groups)) (spot l.initial.octets l.initial.place) (spot l.octets l.place)
