-- `elements::energy_saving_information::parse_type2_energy_saving` meets its contract: a type 2 element.
use Rattle.bits.specs.Reader.{word}
use Rattle.bits.specs.ReaderLaws.{local_tail}
use Rattle.bits.specs.PlacedLaws.{so, from, handed_up}
use Rattle.elements.proofs.EnergySavingLaws.{saving-local}
use Rattle.elements.proofs.PlacedOptional.{type2-ended, type2-refused, type2-read, type2-absent}
use Rattle.elements.proofs.energy_saving_information.parse_type2_energy_saving.Goals as goal

pub returns-in_err-p : goal.returns-in_err-p
unfolding word
returns-in_err-p c = handed_up _ c.from_residual.ensures.1 (type2-ended _ (from c.in_err-p.ensures))

pub returns-in_err-saving : goal.returns-in_err-saving
unfolding word
returns-in_err-saving c =
    handed_up _ c.from_residual-in_err-saving.ensures.1 (type2-refused _ (from c.in_ok-p.ensures) c.if-p-eq1.true (from c.in_err-saving.ensures))

pub returns-then-p-eq1 : goal.returns-then-p-eq1
unfolding word
returns-then-p-eq1 c =
    so (type2-read _ (from c.in_ok-p.ensures) c.if-p-eq1.true (local_tail saving-local) (from c.in_ok-saving.ensures))

pub returns : goal.returns
unfolding word
returns c = so (type2-absent _ (from c.in_ok-p.ensures) c.if-p-eq1.false)
