-- `element_writers::energy_saving_information::ask_saving` meets its contract. Assumes nothing.
use Rattle.std.proofs.Math.Bool.{not-not}
use Rattle.elements.specs.EnergySaving.{saving_fits, alive_has_none, others_have_both}
use Rattle.element_writers.proofs.energy_saving_information.ask_saving.Goals as goal

pub returns-then-o : goal.returns-then-o
unfolding saving_fits alive_has_none others_have_both
returns-then-o c =
    rw (
      c.if-o.true,
      c.ask_type2.ensures,
      c.ask_type2-then-o.ensures,
      ← not-not c.is_none.result,
      ← not-not c.is_none-then-o.result,
      ← c.is_none.ensures,
      ← c.is_none-then-o.ensures,
      c.is_some.ensures,
      c.is_some-then-o.ensures,
      c.held-frame.ensures,
      c.held-multiframe.ensures,
    )
