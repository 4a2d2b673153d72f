-- `elements::group_list::refused` meets its contract: what is empty beside the number.
use Rattle.elements.proofs.group_list.refused.Goals as goal

pub returns : goal.returns
returns g c = rw c.no_list.ensures
