-- `message_writers::typed_pdu_fields::write_closing_mbit` meets its contract.
use Rattle.bits.specs.DigitsLaws.{no_digits, ◌▹◌}
use Rattle.bits.specs.PutsLaws.{field}
use Rattle.element_writers.specs.WrittenElements.{closing-fits}
use Rattle.message_writers.proofs.typed_pdu_fields.write_closing_mbit.Goals as goal

pub returns : goal.returns
returns c = field (no_digits ▹ c.then.ensures) closing-fits c.put.ensures
