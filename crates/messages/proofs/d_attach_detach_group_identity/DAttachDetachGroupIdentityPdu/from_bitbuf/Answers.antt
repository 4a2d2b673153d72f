-- `messages::d_attach_detach_group_identity::DAttachDetachGroupIdentityPdu::from_bitbuf` meets its contract: the head, then no elements, or the table in two
-- parts and its own slot between them. No count overflows: each element skipped is a bit at least. Assumes nothing.
use Prim.Native.Nat.{◌+◌}
use mathlib.Core.Path.{◌≡◌, ◌∙◌, refl}
use native.Mathlib.Omega.{arith}
use Rattle.bits.specs.Placed.{placed, at}
use Rattle.bits.specs.PlacedLaws.{Gives, by, from, refused_by, Fact, fact}
use Rattle.elements.specs.Lists.{downlinks}
use Rattle.elements.specs.GroupAnswers.{downlinks_slot, list_answer}
use Rattle.elements.proofs.Verdicts.{answer, verdict_refused, verdict_to}
use Rattle.elements.proofs.Parts.{no_front_lem, no_slot, no_back, Each, no_more, one_more, Parts, all_read}
use Rattle.messages.proofs.PlacedDescribed.{head_tail}
use Rattle.messages.specs.Calls.{alone, format_of}
use Rattle.messages.proofs.PlacedMessages.{no_head, no_look, elements_follow, none_follow}
use Rattle.messages.specs.MessageAnswers.{only, slots_from, generics_in, message_answer}
use mathlib.Core.Bool.{true, false}
use Rattle.std.specs.Prelude.{Option}
use mathlib.Core.List.{List, [], ◌∷◌, ◌++◌}
use lib.Seq.{sets}
use Rattle.elements.specs.Kinds.{Element, row, stored_in, identifier_of, content}
use Rattle.elements.specs.Rows.{part, no_generics}
use Rattle.elements.proofs.PlacedPart.{no_slots, part-ended, part-unseen}
use Rattle.elements.proofs.PlacedLocations.{downlinks_slot_lem}
use Rattle.elements.specs.declared.typed_pdu_fields.Generic.{Generic}
use Rattle.elements.specs.declared.typed_pdu_fields.Kind.TheVariants as K
use Rattle.elements.specs.declared.typed_pdu_fields.Row.{Row}
use Rattle.elements.specs.declared.group_identity_downlink.OptionalDownlinks.{OptionalDownlinks}
use Rattle.messages.specs.Format.{body, message}
use Rattle.messages.specs.AttachDetach.{attach_detach, attach_detach_of}
use Rattle.messages.specs.declared.Headed.{Headed}
use Rattle.messages.specs.declared.Message.TheVariants as M
use Rattle.messages.specs.declared.d_attach_detach_group_identity.AttachDetachHead.{AttachDetachHead}
use Rattle.messages.specs.declared.Record.{Record}
use Rattle.messages.proofs.d_attach_detach_group_identity.DAttachDetachGroupIdentityPdu.from_bitbuf.Goals as goal
use Rattle.messages.proofs.d_attach_detach_group_identity.DAttachDetachGroupIdentityPdu.from_bitbuf.Goals.{After-read_list_slot-d, In-Ok, Else-not-more, In-Ok-v, In-Ok-w, In-Ok-x, Then-not-further}

-- the slots before the own one, and those behind it
abbrev front : List Row
front = record { identifier = 15; kind = K.Type3 } ∷ record { identifier = 4; kind = K.Type3 } ∷ []

abbrev back : List Row
back = record { identifier = 12; kind = K.Type4 } ∷ []

-- what the slots hold, and the same as the code holds it, make the same record
abbrev answered : AttachDetachHead → OptionalDownlinks → List Generic → List Generic → Record
answered h l gs hs = alone M.AttachDetach (attach_detach_of h (slots_from attach_detach.table (only K.Downlinks l) (generics_in 2 gs hs)))

same_record : (h : Headed AttachDetachHead) (vs ws : List (Option Element)) (v : Option Element) (gs hs : List Generic) → Each front vs gs → Each back ws hs
    → (format_of M.AttachDetach).finish h (vs ++ (v ∷ ws)) ≡ answered h.head (stored_in K.Downlinks v) (sets no_generics 0 gs) (sets no_generics 3 hs)
same_record h vs ws v gs hs (one_more (one_more no_more)) (one_more no_more) = refl

abbrev parts : Headed AttachDetachHead → Parts OptionalDownlinks Record
parts h = record {
  before = front;
  own = row 7 K.Downlinks;
  behind = back;
  from = 3;
  out = stored_in K.Downlinks;
  made = (format_of M.AttachDetach).finish h;
  held = answered h.head;
  same = same_record h;
}

-- the head
headed : (c : In-Ok) → Gives (format_of M.AttachDetach).head c.args.octets.now c.args.c (placed c.in-Ok.head c.in-Ok.c1)
headed c = from c.in-Ok.ensures

-- where an element follows, the answer is that of the elements
following : (c : Else-not-more) → let a = c.args in
    (message_answer (λ r. r.attach_detach)) (at (body identifier_of content (format_of M.AttachDetach) a.skipping c.in-Ok.head true) a.octets.now c.in-Ok-e.c2)
    ≡ (message_answer (λ r. r.attach_detach)) (at (message identifier_of content (format_of M.AttachDetach) a.skipping) a.octets.now a.c)
following c =
    answer (message_answer (λ r. r.attach_detach)) (elements_follow (format_of M.AttachDetach) c.args.skipping refl (from c.in-Ok.ensures) (head_tail M.AttachDetach) (from c.in-Ok-e.ensures)
    c.if-not-more.false (by refl refl))

-- each part, where it is read
front_read : (c : In-Ok-v) → Gives (part attach_detach.table front false c.args.skipping 0) c.args.octets.now c.in-Ok-e.c2 (placed c.scan_part-a.result.value c.in-Ok-v.c3)
front_read c = verdict_to _ c.scan_part-a.ensures c.in-Ok-v.is

-- its own slot: a list's slot is the same in a table and inside a structure
slot_ensured : (c : After-read_list_slot-d) → c.read_list_slot-d.result ≡ list_answer downlinks (at (downlinks_slot 7) c.args.octets.now c.in-Ok-v.c3)
slot_ensured c = rw (downlinks_slot_lem 7) c.read_list_slot-d.ensures

slot_read : (c : In-Ok-w) → Gives (downlinks_slot 7) c.args.octets.now c.in-Ok-v.c3 (placed c.read_list_slot-d.result.value c.in-Ok-w.c4)
slot_read c =
    let slot : c.read_list_slot-d.result ≡ list_answer downlinks (at (downlinks_slot 7) c.args.octets.now c.in-Ok-v.c3) = rw (downlinks_slot_lem 7) c.read_list_slot-d.ensures in
    verdict_to _ slot c.in-Ok-w.is

back_read : (c : In-Ok-x) → Gives (part attach_detach.table back true c.args.skipping 3) c.args.octets.now c.in-Ok-w.c4 (placed c.scan_part-b.result.value c.in-Ok-x.c6)
back_read c = verdict_to _ c.scan_part-b.ensures c.in-Ok-x.is

-- the table, of its parts
unfoldable whole : In-Ok-x → Fact
unfolding downlinks_slot
whole c =
    let slot : c.read_list_slot-d.result ≡ list_answer downlinks (at (downlinks_slot 7) c.args.octets.now c.in-Ok-v.c3) = rw (downlinks_slot_lem 7) c.read_list_slot-d.ensures in
    fact (all_read _ c.args.skipping (parts c.in-Ok.head) (verdict_to _ c.scan_part-a.ensures c.in-Ok-v.is) (verdict_to _ slot c.in-Ok-w.is) (back_read c))

pub returns-in_default : goal.returns-in_default
returns-in_default c =
    c.unread.ensures ∙ answer (message_answer (λ r. r.attach_detach)) (no_head (format_of M.AttachDetach) c.args.skipping (refused_by c.read_head-h.ensures c.unwrap_err.ensures))

pub returns-in_default-v : goal.returns-in_default-v
returns-in_default-v c =
    c.unread-in_default-v.ensures ∙ answer (message_answer (λ r. r.attach_detach)) (no_front_lem _ c.args.skipping (parts c.in-Ok.head) (verdict_refused _ c.scan_part-a.ensures c.unwrap_err-in_default-v.ensures))
    ∙ following ((goal.at.returns-in_default-v c).Else-not-more)

pub returns-in_default-w : goal.returns-in_default-w
unfolding downlinks_slot
returns-in_default-w c =
    c.unread-in_default-w.ensures ∙ answer (message_answer (λ r. r.attach_detach)) (no_slot _ c.args.skipping (parts c.in-Ok.head) (front_read ((goal.at.returns-in_default-w c).In-Ok-v))
    (verdict_refused _ (slot_ensured ((goal.at.returns-in_default-w c).After-read_list_slot-d)) c.unwrap_err-in_default-w.ensures))
    ∙ following ((goal.at.returns-in_default-w c).Else-not-more)

-- nothing stands behind the list
ended : (c : Then-not-further) → Gives (part attach_detach.table back true c.args.skipping 3) c.args.octets.now c.in-Ok-w.c4 (placed no_slots c.in-Ok-z.c5)
ended c = part-ended _ _ _ _ 3 (from c.in-Ok-z.ensures) c.if-not-further.true

pub returns-in_default-z : goal.returns-in_default-z
unfolding downlinks_slot
returns-in_default-z c =
    c.unread-in_default-z.ensures ∙ answer (message_answer (λ r. r.attach_detach)) (no_back _ c.args.skipping (parts c.in-Ok.head) (front_read ((goal.at.returns-in_default-z c).In-Ok-v))
    (slot_read ((goal.at.returns-in_default-z c).In-Ok-w)) (part-unseen _ _ _ _ 3 (refused_by c.element_follows-z.ensures c.unwrap_err-in_default-z.ensures)))
    ∙ following ((goal.at.returns-in_default-z c).Else-not-more)

pub returns-then-not-further : goal.returns-then-not-further
unfolding downlinks_slot
returns-then-not-further c =
    let n = c.scan_part-a.result.value.skipped in
    let all : n + 0 ≡ n = omega arith in
    rw (c.record_of-then-not-further.ensures, ← all)
    (answer (message_answer (λ r. r.attach_detach)) (all_read _ c.args.skipping (parts c.in-Ok.head) (front_read ((goal.at.returns-then-not-further c).In-Ok-v))
    (slot_read ((goal.at.returns-then-not-further c).In-Ok-w)) (ended ((goal.at.returns-then-not-further c).Then-not-further))).is
    ∙ following ((goal.at.returns-then-not-further c).Else-not-more))

pub returns-in_default-x : goal.returns-in_default-x
unfolding downlinks_slot
returns-in_default-x c =
    c.unread-in_default-x.ensures ∙ answer (message_answer (λ r. r.attach_detach)) (no_back _ c.args.skipping (parts c.in-Ok.head) (front_read ((goal.at.returns-in_default-x c).In-Ok-v))
    (slot_read ((goal.at.returns-in_default-x c).In-Ok-w)) (verdict_refused _ c.scan_part-b.ensures c.unwrap_err-in_default-x.ensures))
    ∙ following ((goal.at.returns-in_default-x c).Else-not-more)

pub overflow_add-result : goal.overflow_add-result
unfolding whole
overflow_add-result c =
    let most = (whole ((goal.at.overflow_add-result c).In-Ok-x)).holds.most in
    grind arith

pub returns-in_default-e : goal.returns-in_default-e
returns-in_default-e c =
    c.unread-in_default-e.ensures ∙ answer (message_answer (λ r. r.attach_detach)) (no_look (format_of M.AttachDetach) c.args.skipping refl (headed ((goal.at.returns-in_default-e c).In-Ok))
    (head_tail M.AttachDetach) (refused_by c.element_follows-e.ensures c.unwrap_err-in_default-e.ensures))

pub returns-then-not-more : goal.returns-then-not-more
returns-then-not-more c =
    rw (c.record_of.ensures, c.no_list.ensures)
    (answer (message_answer (λ r. r.attach_detach)) (none_follow (format_of M.AttachDetach) c.args.skipping refl (headed ((goal.at.returns-then-not-more c).In-Ok)) (head_tail M.AttachDetach)
    (from c.in-Ok-e.ensures) c.if-not-more.true))

pub returns : goal.returns
unfolding whole
returns c = rw c.record_of-2.ensures (answer (message_answer (λ r. r.attach_detach)) (whole ((goal.at.returns c).In-Ok-x)).holds.is ∙ following ((goal.at.returns c).Else-not-more))
