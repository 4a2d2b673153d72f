-- `messages::d_location_update_accept::DLocationUpdateAcceptOwnRecord::none` meets its contract: every element and slot absent.
use Rattle.messages.proofs.d_location_update_accept.DLocationUpdateAcceptOwnRecord.none.Goals as goal

pub returns : goal.returns
returns c = rw (c.record_of.ensures, c.optional-none.ensures, c.none.ensures, c.no_options.ensures)
