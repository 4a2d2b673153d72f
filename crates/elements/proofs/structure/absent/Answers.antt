-- `elements::structure::absent` meets its contract: what is absent beside the verdict.
use Rattle.elements.proofs.structure.absent.Goals as goal

pub returns : goal.returns
returns g c = rw (c.optional.ensures, c.none.ensures)
