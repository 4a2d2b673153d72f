-- `message_writers::d_location_update_accept::DLocationUpdateAcceptParts::ask_fields` meets its contract. Assumes nothing.
use Rattle.std.proofs.Common.{arith}
use Rattle.std.proofs.Math.Bool.{and-true}
use Rattle.messages.specs.Description.{fields_asked}
use Rattle.messages.specs.Accept.{accept, accept_tie}
use Rattle.message_writers.specs.Parts.{fields_size}
use Rattle.message_writers.proofs.PartsLaws.{fields_are}
use Rattle.message_writers.proofs.d_location_update_accept.DLocationUpdateAcceptParts.ask_fields.Goals as goal

pub returns : goal.returns
unfolding fields_asked fields_size
returns c = (
  rw c.within.ensures
      (fields_are accept (accept_tie.values c.args.«self».now).fields (simp and-true) (simp and-true) (omega arith)),
  omega arith,
)
