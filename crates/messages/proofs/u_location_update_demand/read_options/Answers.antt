-- `messages::u_location_update_demand::read_options` meets its contract: the type 2 elements one after the other.
use Rattle.std.proofs.Common.{sym}
use Rattle.bits.specs.Reader.{word}
use Rattle.bits.specs.ReaderLaws.{local_tail, field-local}
use Rattle.bits.specs.PlacedLaws.{so, from, handed_up, step, stop}
use Rattle.elements.proofs.ClassOfMsLaws.{class-local}
use Rattle.elements.proofs.PlacedOptional.{from-option, ends}
use Rattle.messages.specs.Description.{read_options}
use Rattle.messages.specs.Type2Elements.{halved}
use Rattle.messages.proofs.HeadLaws.{type2-local}
use Rattle.messages.proofs.PlacedHeads.{type2-made, type2-unmade}
use Rattle.messages.proofs.Type2Laws.{la-sound}
use Rattle.messages.proofs.u_location_update_demand.read_options.Goals as goal

pub returns-in_err-class_of_ms : goal.returns-in_err-class_of_ms
unfolding word read_options
returns-in_err-class_of_ms c =
    handed_up _ c.from_residual.ensures.1 (stop _ (from c.in_err-class_of_ms.ensures))

pub returns-in_err-energy_saving_mode : goal.returns-in_err-energy_saving_mode
unfolding word read_options
returns-in_err-energy_saving_mode c =
    handed_up _ c.from_residual-in_err-energy_saving_mode.ensures.1
    (step _ (from c.in_ok-class_of_ms.ensures) (local_tail (type2-local _ class-local))
    (stop _ (from c.in_err-energy_saving_mode.ensures)))

pub returns-in_err-la : goal.returns-in_err-la
unfolding word read_options
returns-in_err-la c =
    handed_up _ c.from_residual-in_err-la.ensures.1
    (step _ (from c.in_ok-class_of_ms.ensures) (local_tail (type2-local _ class-local))
    (step _ (from-option c.in_ok-energy_saving_mode.ensures) (local_tail (type2-local _ (field-local _)))
    (stop _ (type2-unmade halved _ (from c.in_err-la.ensures)))))

pub returns-in_err-ssi : goal.returns-in_err-ssi
unfolding word read_options
returns-in_err-ssi c =
    handed_up _ c.from_residual-in_err-ssi.ensures.1
    (step _ (from c.in_ok-class_of_ms.ensures) (local_tail (type2-local _ class-local))
    (step _ (from-option c.in_ok-energy_saving_mode.ensures) (local_tail (type2-local _ (field-local _)))
    (step _ (type2-made halved _ (from-option c.in_ok-la.ensures)) (local_tail (type2-local _ la-sound.local))
    (stop _ (from c.in_err-ssi.ensures)))))

pub returns-in_err-address_extension : goal.returns-in_err-address_extension
unfolding word read_options
returns-in_err-address_extension c =
    handed_up _ c.from_residual-in_err-address_extension.ensures.1
    (step _ (from c.in_ok-class_of_ms.ensures) (local_tail (type2-local _ class-local))
    (step _ (from-option c.in_ok-energy_saving_mode.ensures) (local_tail (type2-local _ (field-local _)))
    (step _ (type2-made halved _ (from-option c.in_ok-la.ensures)) (local_tail (type2-local _ la-sound.local))
    (step _ (from-option c.in_ok-ssi.ensures) (local_tail (type2-local _ (field-local _)))
    (stop _ (from c.in_err-address_extension.ensures))))))

pub returns : goal.returns
unfolding word read_options
returns c =
    so
    (step _ (from c.in_ok-class_of_ms.ensures) (local_tail (type2-local _ class-local))
    (step _ (from-option c.in_ok-energy_saving_mode.ensures) (local_tail (type2-local _ (field-local _)))
    (step _ (type2-made halved _ (from-option c.in_ok-la.ensures)) (local_tail (type2-local _ la-sound.local))
    (step _ (from-option c.in_ok-ssi.ensures) (local_tail (type2-local _ (field-local _)))
    (step _ (from-option c.in_ok-address_extension.ensures) (local_tail (type2-local _ (field-local _)))
    (ends (sym c.options_of.ensures)))))))
