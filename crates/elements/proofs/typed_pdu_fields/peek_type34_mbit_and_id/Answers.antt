-- `elements::typed_pdu_fields::peek_type34_mbit_and_id` meets its contract.
use Rattle.std.proofs.Common.{sym, ◌∙◌}
use Rattle.bits.specs.Reader.{word}
use Rattle.elements.proofs.PlacedOptional.{by_itself}
use Rattle.elements.proofs.typed_pdu_fields.peek_type34_mbit_and_id.Goals as goal

pub returns : goal.returns
unfolding word
returns c = sym (by_itself _) ∙ c.parse_type2_generic.ensures
