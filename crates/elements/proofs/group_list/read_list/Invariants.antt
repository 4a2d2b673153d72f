-- `elements::group_list::read_list` meets its contract: the loop's invariant says that the groups read so far stand at the front of
-- the list, and that what is left to read is what was asked for.
use Rattle.elements.proofs.PlacedLists.{FilledList}
use Rattle.elements.proofs.group_list.read_list.Given as goal

abbrev pub invariant-loop-i : goal.invariant-loop-i
invariant-loop-i g l = FilledList g.L.GroupList.kind l.octets l.front.count l.first l.list l.place l.i
