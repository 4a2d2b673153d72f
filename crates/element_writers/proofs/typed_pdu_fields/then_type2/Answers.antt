-- `element_writers::typed_pdu_fields::then_type2` meets its contract. Assumes nothing.
use Rattle.bits.specs.DigitsLaws.{joined-twice}
use Rattle.element_writers.proofs.typed_pdu_fields.then_type2.Goals as goal

pub returns : goal.returns
returns g c = rw (← c.held-v.ensures, ← c.is_some.ensures) (joined-twice c.then.ensures c.then_if.ensures)
