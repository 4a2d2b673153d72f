-- `messages::d_attach_detach_group_identity::read_head` meets its contract: the type, and four bits as one field; another type is refused.
use Rattle.std.specs.Prelude.{ℕ, ◌≡◌}
use Rattle.std.proofs.Common.{arith}
use Rattle.bits.specs.Reader.{word}
use Rattle.bits.specs.ReaderLaws.{local_tail, field-local}
use Rattle.bits.specs.Placed.{window}
use Rattle.bits.specs.PlacedLaws.{so, from, handed_up, step, stop, done}
use Rattle.bits.specs.PlacedTimes.{alike}
use Rattle.messages.specs.Description.{read_fields, read_head}
use Rattle.messages.specs.AttachDetach.{attach_detach_head_of}
use Rattle.messages.specs.declared.Headed.{Headed}
use Rattle.messages.specs.declared.d_attach_detach_group_identity.AttachDetachHead.{AttachDetachHead}
use Rattle.messages.proofs.FlagsWord.{flags-word}
use Rattle.messages.proofs.HeadLaws.{type_local}
use Rattle.messages.proofs.PlacedHeads.{type_there, type_ended, type_other}
use Rattle.messages.proofs.d_attach_detach_group_identity.read_head.Goals as goal

-- the head of its bits
abbrev headed : ℕ → ℕ → ℕ → ℕ → Headed AttachDetachHead
headed r a m o = record { head = attach_detach_head_of (r, (a, (m, tt))) tt; obit = o }

pub returns-in_err-pdu_type : goal.returns-in_err-pdu_type
unfolding word read_head read_fields
returns-in_err-pdu_type c = handed_up _ c.from_residual.ensures.1 (stop _ (type_ended _ (from c.in_err-pdu_type.ensures)))

pub returns-in_err-v : goal.returns-in_err-v
unfolding word read_head read_fields
returns-in_err-v c =
    let own : c.in_ok-pdu_type.pdu_type ≡ 10 = omega (arith, c.if-pdu_type-eq-D_ATTACH_DETACH_GROUP_IDENTITY.true) in
    handed_up _ c.from_residual-in_err-v.ensures.1
    (step _ (type_there _ own (from c.in_ok-pdu_type.ensures)) (local_tail (type_local _))
    (alike _ (flags-word headed (window _ _)) (stop _ (from c.in_err-v.ensures))))

pub returns-then-pdu_type-eq-D_ATTACH_DETACH_GROUP_IDENTITY : goal.returns-then-pdu_type-eq-D_ATTACH_DETACH_GROUP_IDENTITY
unfolding word read_head read_fields
returns-then-pdu_type-eq-D_ATTACH_DETACH_GROUP_IDENTITY c =
    let own : c.in_ok-pdu_type.pdu_type ≡ 10 = omega (arith, c.if-pdu_type-eq-D_ATTACH_DETACH_GROUP_IDENTITY.true) in
    so
    (step _ (type_there _ own (from c.in_ok-pdu_type.ensures)) (local_tail (type_local _))
    (alike _ (flags-word headed (window _ _)) (step _ (from c.in_ok-v.ensures) (local_tail (field-local 4)) done)))

pub returns : goal.returns
unfolding word read_head read_fields
returns c =
    so (stop _ (type_other _ (λ e. c.if-pdu_type-eq-D_ATTACH_DETACH_GROUP_IDENTITY.false (omega (arith, e))) (from c.in_ok-pdu_type.ensures)))
