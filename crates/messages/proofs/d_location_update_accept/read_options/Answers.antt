-- `messages::d_location_update_accept::read_options` meets its contract: the type 2 elements one after the other.
use Rattle.std.proofs.Common.{sym}
use Rattle.bits.specs.Reader.{word}
use Rattle.bits.specs.ReaderLaws.{local_tail, field-local}
use Rattle.bits.specs.PlacedLaws.{so, from, handed_up, step, stop}
use Rattle.elements.proofs.EnergySavingLaws.{saving-local}
use Rattle.elements.proofs.PlacedOptional.{from-option, ends}
use Rattle.messages.specs.Description.{read_options}
use Rattle.messages.proofs.HeadLaws.{type2-local}
use Rattle.messages.proofs.d_location_update_accept.read_options.Goals as goal

pub returns-in_err-ssi : goal.returns-in_err-ssi
unfolding word read_options
returns-in_err-ssi c =
    handed_up _ c.from_residual.ensures.1 (stop _ (from c.in_err-ssi.ensures))

pub returns-in_err-address_extension : goal.returns-in_err-address_extension
unfolding word read_options
returns-in_err-address_extension c =
    handed_up _ c.from_residual-in_err-address_extension.ensures.1
    (step _ (from-option c.in_ok-ssi.ensures) (local_tail (type2-local _ (field-local _)))
    (stop _ (from c.in_err-address_extension.ensures)))

pub returns-in_err-subscriber_class : goal.returns-in_err-subscriber_class
unfolding word read_options
returns-in_err-subscriber_class c =
    handed_up _ c.from_residual-in_err-subscriber_class.ensures.1
    (step _ (from-option c.in_ok-ssi.ensures) (local_tail (type2-local _ (field-local _)))
    (step _ (from-option c.in_ok-address_extension.ensures) (local_tail (type2-local _ (field-local _)))
    (stop _ (from c.in_err-subscriber_class.ensures))))

pub returns-in_err-energy_saving : goal.returns-in_err-energy_saving
unfolding word read_options
returns-in_err-energy_saving c =
    handed_up _ c.from_residual-in_err-energy_saving.ensures.1
    (step _ (from-option c.in_ok-ssi.ensures) (local_tail (type2-local _ (field-local _)))
    (step _ (from-option c.in_ok-address_extension.ensures) (local_tail (type2-local _ (field-local _)))
    (step _ (from-option c.in_ok-subscriber_class.ensures) (local_tail (type2-local _ (field-local _)))
    (stop _ (from c.in_err-energy_saving.ensures)))))

pub returns-in_err-scch : goal.returns-in_err-scch
unfolding word read_options
returns-in_err-scch c =
    handed_up _ c.from_residual-in_err-scch.ensures.1
    (step _ (from-option c.in_ok-ssi.ensures) (local_tail (type2-local _ (field-local _)))
    (step _ (from-option c.in_ok-address_extension.ensures) (local_tail (type2-local _ (field-local _)))
    (step _ (from-option c.in_ok-subscriber_class.ensures) (local_tail (type2-local _ (field-local _)))
    (step _ (from c.in_ok-energy_saving.ensures) (local_tail (type2-local _ saving-local))
    (stop _ (from c.in_err-scch.ensures))))))

pub returns : goal.returns
unfolding word read_options
returns c =
    so
    (step _ (from-option c.in_ok-ssi.ensures) (local_tail (type2-local _ (field-local _)))
    (step _ (from-option c.in_ok-address_extension.ensures) (local_tail (type2-local _ (field-local _)))
    (step _ (from-option c.in_ok-subscriber_class.ensures) (local_tail (type2-local _ (field-local _)))
    (step _ (from c.in_ok-energy_saving.ensures) (local_tail (type2-local _ saving-local))
    (step _ (from-option c.in_ok-scch.ensures) (local_tail (type2-local _ (field-local _)))
    (ends (sym c.options_of.ensures)))))))
