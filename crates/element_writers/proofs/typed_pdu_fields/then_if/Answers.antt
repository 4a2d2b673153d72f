-- `element_writers::typed_pdu_fields::then_if` meets its contract. Assumes nothing.
use Rattle.element_writers.specs.GroupParts.{part-digits}
use Rattle.element_writers.proofs.typed_pdu_fields.then_if.Goals as goal

pub returns : goal.returns
returns g c = rw (← c.held-v.ensures, ← part-digits c.args.width _, ← c.is_some.ensures, ← c.width_if.ensures.0, ← c.unwrap_or.ensures) c.then.ensures
