-- `elements::structure::refused` meets its contract: what is empty beside the number.
use Rattle.elements.proofs.structure.refused.Goals as goal

pub returns : goal.returns
returns g c = rw c.none.ensures
