-- `messages::d_location_update_accept::read_head` meets its contract: the type, the fields up to the O-bit and the type 2 elements; another type is refused.
use Rattle.bits.specs.Reader.{word}
use Rattle.bits.specs.ReaderLaws.{local·rules, local_tail}
use Rattle.bits.specs.PlacedLaws.{so, from, handed_up, step, stop, done}
use Rattle.messages.specs.Description.{read_fields, read_head}
use Rattle.messages.proofs.PlacedDescribed.{options_tail}
use Rattle.messages.specs.declared.Message.TheVariants as M
use Rattle.messages.proofs.PlacedHeads.{type_there, type_ended, type_other}
use Rattle.messages.proofs.HeadLaws.{type_local}
use Rattle.messages.proofs.d_location_update_accept.read_head.Goals as goal

pub returns-in_err-pdu_type : goal.returns-in_err-pdu_type
unfolding word read_head read_fields
returns-in_err-pdu_type c = handed_up _ c.from_residual.ensures.1 (stop _ (type_ended _ (from c.in_err-pdu_type.ensures)))

pub returns-in_err-location_update_accept_type : goal.returns-in_err-location_update_accept_type
unfolding word read_head read_fields
returns-in_err-location_update_accept_type c =
    handed_up _ c.from_residual-in_err-location_update_accept_type.ensures.1
    (step _ (type_there _ c.if-pdu_type-eq-D_LOCATION_UPDATE_ACCEPT.true (from c.in_ok-pdu_type.ensures)) (local_tail (type_local _))
    (stop _ (from c.in_err-location_update_accept_type.ensures)))

pub returns-in_err-obit : goal.returns-in_err-obit
unfolding word read_head read_fields
returns-in_err-obit c =
    handed_up _ c.from_residual-in_err-obit.ensures.1
    (step _ (type_there _ c.if-pdu_type-eq-D_LOCATION_UPDATE_ACCEPT.true (from c.in_ok-pdu_type.ensures)) (local_tail (type_local _))
    (step _ (from c.in_ok-location_update_accept_type.ensures) (search local·rules)
    (stop _ (from c.in_err-obit.ensures))))

pub returns-in_err-options : goal.returns-in_err-options
unfolding word read_head read_fields
returns-in_err-options c =
    handed_up _ c.from_residual-in_err-options.ensures.1
    (step _ (type_there _ c.if-pdu_type-eq-D_LOCATION_UPDATE_ACCEPT.true (from c.in_ok-pdu_type.ensures)) (local_tail (type_local _))
    (step _ (from c.in_ok-location_update_accept_type.ensures) (search local·rules)
    (step _ (from c.in_ok-obit.ensures) (search local·rules)
    (stop _ (from c.in_err-options.ensures)))))

pub returns-then-pdu_type-eq-D_LOCATION_UPDATE_ACCEPT : goal.returns-then-pdu_type-eq-D_LOCATION_UPDATE_ACCEPT
unfolding word read_head read_fields
returns-then-pdu_type-eq-D_LOCATION_UPDATE_ACCEPT c =
    so
    (step _ (type_there _ c.if-pdu_type-eq-D_LOCATION_UPDATE_ACCEPT.true (from c.in_ok-pdu_type.ensures)) (local_tail (type_local _))
    (step _ (from c.in_ok-location_update_accept_type.ensures) (search local·rules)
    (step _ (from c.in_ok-obit.ensures) (search local·rules)
    (step _ (from c.in_ok-options.ensures) (options_tail M.Accept _)
    done))))

pub returns : goal.returns
unfolding word read_head read_fields
returns c = so (stop _ (type_other _ c.if-pdu_type-eq-D_LOCATION_UPDATE_ACCEPT.false (from c.in_ok-pdu_type.ensures)))
