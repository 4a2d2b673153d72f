-- `element_writers::typed_pdu_fields::element_header` meets its contract. Assumes nothing.
use Rattle.bits.specs.DigitsLaws.{no_digits, ◌▹◌}
use Rattle.element_writers.proofs.typed_pdu_fields.element_header.Goals as goal

pub returns : goal.returns
returns c = no_digits ▹ c.then.ensures ▹ c.then-2.ensures ▹ c.then-3.ensures
