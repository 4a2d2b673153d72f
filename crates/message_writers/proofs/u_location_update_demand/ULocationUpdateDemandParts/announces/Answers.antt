-- `message_writers::u_location_update_demand::ULocationUpdateDemandParts::announces` meets its contract. Assumes nothing.
use Rattle.std.proofs.Math.Bool.{or-false}
use Rattle.elements.proofs.NumbersLaws.{is_some-held}
use Rattle.messages.specs.Head.{any_present}
use Rattle.messages.specs.Description.{any_option, more}
use Rattle.message_writers.proofs.PartsLaws.{slot-present}
use Rattle.message_writers.proofs.u_location_update_demand.ULocationUpdateDemandParts.announces.Goals as goal

pub returns : goal.returns
unfolding more any_option any_present
returns c = simp (slot-present, is_some-held, or-false)
