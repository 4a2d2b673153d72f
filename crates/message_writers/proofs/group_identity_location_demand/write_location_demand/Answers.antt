-- `message_writers::group_identity_location_demand::write_location_demand` meets its contract. Assumes nothing.
use Rattle.bits.specs.PlacedLaws.{Fact, fact}
use Rattle.bits.specs.DigitsLaws.{◌▹◌}
use Rattle.bits.specs.PutsLaws.{nothing}
use Rattle.element_writers.specs.WrittenElements.{front-held}
use Rattle.message_writers.proofs.group_identity_location_demand.write_location_demand.Goals as goal
use Rattle.message_writers.proofs.group_identity_location_demand.write_location_demand.Goals.{After-then-front}

-- up to the O-bit
abbrev front : After-then-front → Fact
front c = fact (front-held _ _ _ _ (c.element_header-h.ensures ▹ c.then-b.ensures ▹ c.then-front.ensures))

pub write_nested-requires : goal.write_nested-requires
write_nested-requires c = (front ((goal.at.write_nested-requires c).After-then-front)).holds.0

pub returns-then-o : goal.returns-then-o
returns-then-o c =
    rw (c.if-o.true, ← (front ((goal.at.returns-then-o c).After-then-front)).holds.1) c.write_nested.ensures

pub returns : goal.returns
returns c =
    rw c.if-o.false nothing
