-- `elements::typed_pdu_fields::read_optional` meets its contract.
use Rattle.std.specs.Prelude.{option_map, Some, None}
use Rattle.bits.specs.ReaderLaws.{local·rules}
use Rattle.bits.specs.PlacedLaws.{so, from, handed_up_by}
use Rattle.elements.proofs.PlacedOptional.{wanted-refused, wanted_read, unwanted}
use Rattle.elements.proofs.typed_pdu_fields.read_optional.Goals as goal

pub returns-in_err-v : goal.returns-in_err-v
returns-in_err-v g c =
    handed_up_by (option_map g.T.Number.value) _ c.from_residual.ensures.1 (wanted-refused Some None _ c.if-wanted.true (from c.in_err-v.ensures))

pub returns-then-wanted : goal.returns-then-wanted
returns-then-wanted g c = so (wanted_read Some None _ c.if-wanted.true (search local·rules) (from c.in_ok-v.ensures))

pub returns : goal.returns
returns g c = so (unwanted Some None _ c.if-wanted.false)
