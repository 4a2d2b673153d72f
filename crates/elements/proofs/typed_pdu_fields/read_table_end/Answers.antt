-- `elements::typed_pdu_fields::read_table_end` meets its contract.
use Rattle.bits.specs.ReaderLaws.{local·rules}
use Rattle.bits.specs.PlacedLaws.{so, from, handed_up, step, stop, done}
use Rattle.elements.proofs.PlacedTable.{skipping_tail}
use Rattle.elements.proofs.TableLaws.{closing-local}
use Rattle.elements.proofs.typed_pdu_fields.read_table_end.Goals as goal

pub returns-in_err-n : goal.returns-in_err-n
returns-in_err-n c = handed_up _ c.from_residual.ensures.1 (stop _ (from c.in_err-n.ensures))

pub returns-in_err-c2 : goal.returns-in_err-c2
returns-in_err-c2 c =
    handed_up _ c.from_residual-in_err-c2.ensures.1
    (step _ (from c.in_ok-n.ensures) (skipping_tail _ _) (stop _ (from c.in_err-c2.ensures)))

pub returns : goal.returns
returns c =
    so
    (step _ (from c.in_ok-n.ensures) (skipping_tail _ _)
    (step _ (from c.in_ok-c2.ensures) (search (local·rules, closing-local)) done))
