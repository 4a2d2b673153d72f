-- `elements::typed_pdu_fields::parse_type2_generic` meets its contract: the P-bit, and what is there behind a P-bit of 1.
use Rattle.std.specs.Prelude.{option_map}
use Rattle.bits.specs.Reader.{word}
use Rattle.bits.specs.ReaderLaws.{local·rules}
use Rattle.bits.specs.PlacedLaws.{so, from, handed_up_by, step, stop}
use Rattle.elements.proofs.typed_pdu_fields.parse_type2_generic.Goals as goal

pub returns-in_err-p : goal.returns-in_err-p
unfolding word
returns-in_err-p g c = handed_up_by (option_map g.T.Number.value) _ c.from_residual.ensures.1 (stop _ (from c.in_err-p.ensures))

pub returns : goal.returns
unfolding word
returns g c = so (step _ (from c.in_ok-p.ensures) (search local·rules) (from c.read_optional.ensures))
