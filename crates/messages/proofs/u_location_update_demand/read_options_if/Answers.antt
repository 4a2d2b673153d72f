-- `messages::u_location_update_demand::read_options_if` meets its contract: the type 2 elements behind an O-bit of 1, else none.
use Rattle.bits.specs.PlacedLaws.{so, done}
use Rattle.messages.proofs.u_location_update_demand.read_options_if.Goals as goal

pub returns-then-more : goal.returns-then-more
returns-then-more c = rw c.if-more.true c.read_options.ensures

pub returns : goal.returns
returns c = rw (c.if-more.false, c.no_options.ensures) (so done)
