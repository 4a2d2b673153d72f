-- `elements::energy_saving_information::EnergySavingInformation::from_bitbuf` meets its contract: three numbers one after the other.
use Rattle.std.proofs.Common.{ne_eqb}
use Rattle.bits.specs.Reader.{word}
use Rattle.bits.specs.PlacedLaws.{so, from, handed_up, stop}
use Rattle.elements.specs.EnergySaving.{energy_saving}
use Rattle.elements.proofs.EnergySavingLaws.{no_frame, no_multiframe, whole-saving}
use Rattle.elements.proofs.energy_saving_information.EnergySavingInformation.from_bitbuf.Goals as goal

pub returns-in_err-mode : goal.returns-in_err-mode
unfolding word energy_saving
returns-in_err-mode c = handed_up _ c.from_residual.ensures.1 (stop _ (from c.in_err-mode.ensures))

pub returns-in_err-frame : goal.returns-in_err-frame
unfolding word
returns-in_err-frame c = handed_up _ c.from_residual-in_err-frame.ensures.1 (no_frame (from c.in_ok-mode.ensures) (from c.in_err-frame.ensures))

pub returns-in_err-multiframe : goal.returns-in_err-multiframe
unfolding word
returns-in_err-multiframe c =
    handed_up _ c.from_residual-in_err-multiframe.ensures.1
    (no_multiframe (from c.in_ok-mode.ensures) (from c.in_ok-frame.ensures) (from c.in_err-multiframe.ensures))

pub returns-then-mode-eq-STAY_ALIVE : goal.returns-then-mode-eq-STAY_ALIVE
unfolding word
returns-then-mode-eq-STAY_ALIVE c =
    so
    (whole-saving (from c.in_ok-mode.ensures) (from c.in_ok-frame.ensures) (from c.in_ok-multiframe.ensures) (rw c.if-mode-eq-STAY_ALIVE.true))

pub returns : goal.returns
unfolding word
returns c =
    so
    (whole-saving (from c.in_ok-mode.ensures) (from c.in_ok-frame.ensures) (from c.in_ok-multiframe.ensures)
    (rw (ne_eqb _ _ c.if-mode-eq-STAY_ALIVE.false, c.into.ensures, c.into-2.ensures)))
