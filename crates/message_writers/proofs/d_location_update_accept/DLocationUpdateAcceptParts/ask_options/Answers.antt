-- `message_writers::d_location_update_accept::DLocationUpdateAcceptParts::ask_options` meets its contract. Assumes nothing.
use Rattle.std.proofs.Common.{arith}
use Rattle.std.proofs.Math.Bool.{and-true}
use Rattle.elements.proofs.NumbersLaws.{is_some-held}
use Rattle.messages.specs.Description.{options_asked}
use Rattle.messages.specs.Accept.{accept, accept_tie}
use Rattle.message_writers.specs.Parts.{options_size}
use Rattle.message_writers.proofs.PartsLaws.{options_are, all_true}
use Rattle.message_writers.proofs.d_location_update_accept.DLocationUpdateAcceptParts.ask_options.Goals as goal

pub returns : goal.returns
unfolding options_asked options_size
returns c = (
  rw (
    c.ask_type2.ensures,
    c.ask_type2-2.ensures,
    c.ask_type2-3.ensures,
    c.ask_type2-4.ensures,
    c.ask_saving-saving.ensures,
    c.width_if.ensures.0,
    c.width_if-2.ensures.0,
    c.width_if-3.ensures.0,
    c.width_if-4.ensures.0,
    c.width_if-5.ensures.0,
  )
      (options_are accept.options (accept_tie.values c.args.«self».now).options (simp and-true) (simp (all_true, and-true)) (simp (all_true, and-true)) (simp is_some-held (omega arith))),
  omega (arith, c.width_if.ensures.1, c.width_if-2.ensures.1, c.width_if-3.ensures.1, c.width_if-4.ensures.1, c.width_if-5.ensures.1),
)
