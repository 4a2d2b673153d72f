-- `elements::typed_pdu_fields::parse_type3_generic` meets its contract.
use Rattle.bits.specs.Reader.{word}
use Rattle.bits.specs.ReaderLaws.{local·rules}
use Rattle.bits.specs.PlacedLaws.{so, from, handed_up, step, stop, done}
use Rattle.elements.specs.Generics.{type3}
use Rattle.elements.proofs.GenericsLaws.{kept-local}
use Rattle.elements.proofs.typed_pdu_fields.parse_type3_generic.Goals as goal

pub returns-in_err-len : goal.returns-in_err-len
unfolding type3 word
returns-in_err-len c = handed_up _ c.from_residual.ensures.1 (stop _ (from c.in_err-len.ensures))

pub returns-in_err-data : goal.returns-in_err-data
unfolding type3 word
returns-in_err-data c =
    handed_up _ c.from_residual-in_err-data.ensures.1
    (step _ (from c.in_ok-len.ensures) (search local·rules) (stop _ (stop _ (from c.in_err-data.ensures))))

pub returns : goal.returns
unfolding type3 word
returns c =
    so
    (step _ (from c.in_ok-len.ensures) (search local·rules)
    (step _ (step _ (from c.in_ok-data.ensures) (search (local·rules, kept-local)) done) (search (local·rules, kept-local)) done))
