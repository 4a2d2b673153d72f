-- `messages::u_location_update_demand::read_head` meets its contract: the type, the fields up to the O-bit and the type 2 elements; another type is refused.
use Rattle.bits.specs.Reader.{word}
use Rattle.bits.specs.ReaderLaws.{local·rules, local_tail}
use Rattle.bits.specs.PlacedLaws.{so, from, handed_up, step, stop, done}
use Rattle.elements.proofs.PlacedOptional.{from-option}
use Rattle.messages.specs.Description.{read_fields, read_head}
use Rattle.messages.proofs.PlacedDescribed.{options_tail}
use Rattle.messages.specs.declared.Message.TheVariants as M
use Rattle.messages.proofs.PlacedHeads.{type_there, type_ended, type_other}
use Rattle.messages.proofs.HeadLaws.{type_local}
use Rattle.messages.proofs.u_location_update_demand.read_head.Goals as goal

pub returns-in_err-pdu_type : goal.returns-in_err-pdu_type
unfolding word read_head read_fields
returns-in_err-pdu_type c = handed_up _ c.from_residual.ensures.1 (stop _ (type_ended _ (from c.in_err-pdu_type.ensures)))

pub returns-in_err-location_update_type : goal.returns-in_err-location_update_type
unfolding word read_head read_fields
returns-in_err-location_update_type c =
    handed_up _ c.from_residual-in_err-location_update_type.ensures.1
    (step _ (type_there _ c.if-pdu_type-eq-U_LOCATION_UPDATE_DEMAND.true (from c.in_ok-pdu_type.ensures)) (local_tail (type_local _))
    (stop _ (from c.in_err-location_update_type.ensures)))

pub returns-in_err-request_to_append_la : goal.returns-in_err-request_to_append_la
unfolding word read_head read_fields
returns-in_err-request_to_append_la c =
    handed_up _ c.from_residual-in_err-request_to_append_la.ensures.1
    (step _ (type_there _ c.if-pdu_type-eq-U_LOCATION_UPDATE_DEMAND.true (from c.in_ok-pdu_type.ensures)) (local_tail (type_local _))
    (step _ (from c.in_ok-location_update_type.ensures) (search local·rules)
    (stop _ (from c.in_err-request_to_append_la.ensures))))

pub returns-in_err-cipher_control : goal.returns-in_err-cipher_control
unfolding word read_head read_fields
returns-in_err-cipher_control c =
    handed_up _ c.from_residual-in_err-cipher_control.ensures.1
    (step _ (type_there _ c.if-pdu_type-eq-U_LOCATION_UPDATE_DEMAND.true (from c.in_ok-pdu_type.ensures)) (local_tail (type_local _))
    (step _ (from c.in_ok-location_update_type.ensures) (search local·rules)
    (step _ (from c.in_ok-request_to_append_la.ensures) (search local·rules)
    (stop _ (from c.in_err-cipher_control.ensures)))))

pub returns-in_err-ciphering : goal.returns-in_err-ciphering
unfolding word read_head read_fields
returns-in_err-ciphering c =
    handed_up _ c.from_residual-in_err-ciphering.ensures.1
    (step _ (type_there _ c.if-pdu_type-eq-U_LOCATION_UPDATE_DEMAND.true (from c.in_ok-pdu_type.ensures)) (local_tail (type_local _))
    (step _ (from c.in_ok-location_update_type.ensures) (search local·rules)
    (step _ (from c.in_ok-request_to_append_la.ensures) (search local·rules)
    (step _ (from c.in_ok-cipher_control.ensures) (search local·rules)
    (stop _ (from c.in_err-ciphering.ensures))))))

pub returns-in_err-obit : goal.returns-in_err-obit
unfolding word read_head read_fields
returns-in_err-obit c =
    handed_up _ c.from_residual-in_err-obit.ensures.1
    (step _ (type_there _ c.if-pdu_type-eq-U_LOCATION_UPDATE_DEMAND.true (from c.in_ok-pdu_type.ensures)) (local_tail (type_local _))
    (step _ (from c.in_ok-location_update_type.ensures) (search local·rules)
    (step _ (from c.in_ok-request_to_append_la.ensures) (search local·rules)
    (step _ (from c.in_ok-cipher_control.ensures) (search local·rules)
    (step _ (from-option c.in_ok-ciphering.ensures) (search local·rules)
    (stop _ (from c.in_err-obit.ensures)))))))

pub returns-in_err-options : goal.returns-in_err-options
unfolding word read_head read_fields
returns-in_err-options c =
    handed_up _ c.from_residual-in_err-options.ensures.1
    (step _ (type_there _ c.if-pdu_type-eq-U_LOCATION_UPDATE_DEMAND.true (from c.in_ok-pdu_type.ensures)) (local_tail (type_local _))
    (step _ (from c.in_ok-location_update_type.ensures) (search local·rules)
    (step _ (from c.in_ok-request_to_append_la.ensures) (search local·rules)
    (step _ (from c.in_ok-cipher_control.ensures) (search local·rules)
    (step _ (from-option c.in_ok-ciphering.ensures) (search local·rules)
    (step _ (from c.in_ok-obit.ensures) (search local·rules)
    (stop _ (from c.in_err-options.ensures))))))))

pub returns-then-pdu_type-eq-U_LOCATION_UPDATE_DEMAND : goal.returns-then-pdu_type-eq-U_LOCATION_UPDATE_DEMAND
unfolding word read_head read_fields
returns-then-pdu_type-eq-U_LOCATION_UPDATE_DEMAND c =
    rw c.into.ensures (so
    (step _ (type_there _ c.if-pdu_type-eq-U_LOCATION_UPDATE_DEMAND.true (from c.in_ok-pdu_type.ensures)) (local_tail (type_local _))
    (step _ (from c.in_ok-location_update_type.ensures) (search local·rules)
    (step _ (from c.in_ok-request_to_append_la.ensures) (search local·rules)
    (step _ (from c.in_ok-cipher_control.ensures) (search local·rules)
    (step _ (from-option c.in_ok-ciphering.ensures) (search local·rules)
    (step _ (from c.in_ok-obit.ensures) (search local·rules)
    (step _ (from c.in_ok-options.ensures) (options_tail M.Demand _)
    done))))))))

pub returns : goal.returns
unfolding word read_head read_fields
returns c = so (stop _ (type_other _ c.if-pdu_type-eq-U_LOCATION_UPDATE_DEMAND.false (from c.in_ok-pdu_type.ensures)))
