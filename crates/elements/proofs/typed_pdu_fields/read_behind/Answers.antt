-- `elements::typed_pdu_fields::read_behind` meets its contract. Assumes nothing.
use Rattle.elements.proofs.typed_pdu_fields.read_behind.Goals as goal

pub returns-then-last : goal.returns-then-last
returns-then-last c =
    rw c.if-last.true c.read_table_end.ensures

pub returns : goal.returns
returns c =
    rw c.if-last.false c.skip_if.ensures
