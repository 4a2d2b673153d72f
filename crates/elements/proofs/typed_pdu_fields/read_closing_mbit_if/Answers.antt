-- `elements::typed_pdu_fields::read_closing_mbit_if` meets its contract. Assumes nothing.
use Rattle.bits.specs.PlacedLaws.{so, done}
use Rattle.elements.proofs.typed_pdu_fields.read_closing_mbit_if.Goals as goal

pub returns-then-there : goal.returns-then-there
returns-then-there c =
    rw c.if-there.true c.read_closing_mbit.ensures

pub returns : goal.returns
returns c =
    rw c.if-there.false (so done)
