-- `messages::u_location_update_demand::ULocationUpdateDemandOwnRecord::none` meets its contract: every element and slot absent.
use Rattle.messages.proofs.u_location_update_demand.ULocationUpdateDemandOwnRecord.none.Goals as goal

pub returns : goal.returns
returns c = rw (c.record_of.ensures, c.optional-none.ensures, c.none.ensures, c.no_options.ensures)
