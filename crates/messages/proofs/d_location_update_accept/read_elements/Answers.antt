-- `messages::d_location_update_accept::read_elements` meets its contract: the table in two parts, and its own slot between them. No count overflows:
-- each element skipped is a bit at least. Assumes nothing.
use Prim.Native.Nat.{◌+◌}
use mathlib.Core.Path.{◌≡◌, refl, ◌∙◌}
use native.Mathlib.Omega.{arith}
use mathlib.Core.Bool.{true, false}
use Rattle.std.specs.Prelude.{Option}
use mathlib.Core.List.{List, [], ◌∷◌, ◌++◌}
use lib.Seq.{sets}
use Rattle.bits.specs.Placed.{placed}
use Rattle.bits.specs.PlacedLaws.{Gives, from, refused_by, Fact, fact}
use Rattle.elements.specs.Kinds.{Element, row, stored_in}
use Rattle.elements.specs.Rows.{part, no_generics}
use Rattle.elements.specs.GroupAnswers.{location_accept_slot, structure_slot}
use Rattle.elements.proofs.Verdicts.{answer, verdict_to, verdict_refused}
use Rattle.elements.proofs.PlacedPart.{no_slots, part-ended, part-unseen}
use Rattle.elements.proofs.Parts.{Each, no_more, one_more, Parts, no_front_lem, no_slot, no_back, all_read}
use Rattle.elements.specs.declared.typed_pdu_fields.Generic.{Generic}
use Rattle.elements.specs.declared.typed_pdu_fields.Kind.TheVariants as K
use Rattle.elements.specs.declared.typed_pdu_fields.Row.{Row}
use Rattle.elements.specs.declared.group_identity_location_accept.OptionalLocationAccept.{OptionalLocationAccept}
use Rattle.messages.specs.Accept.{accept, accept_of}
use Rattle.messages.specs.Calls.{alone, format_of}
use Rattle.messages.specs.MessageAnswers.{only, slots_from, generics_in, message_answer}
use Rattle.messages.specs.declared.Headed.{Headed}
use Rattle.messages.specs.declared.Message.TheVariants as M
use Rattle.messages.specs.declared.d_location_update_accept.AcceptHead.{AcceptHead}
use Rattle.messages.specs.declared.Record.{Record}
use Rattle.messages.proofs.d_location_update_accept.read_elements.Goals as goal
use Rattle.messages.proofs.d_location_update_accept.read_elements.Goals.{In-Ok, In-Ok-w, In-Ok-x, Then-not-further}

-- the slots before the own one, and those behind it
abbrev front : List Row
front = record { identifier = 2; kind = K.Type4 } ∷ record { identifier = 3; kind = K.Type3 } ∷ []

abbrev back : List Row
back = record { identifier = 1; kind = K.Type3 } ∷ record { identifier = 10; kind = K.Type3 } ∷ record { identifier = 12; kind = K.Type4 } ∷ record { identifier = 13; kind = K.Type3 } ∷ record { identifier = 15; kind = K.Type3 } ∷ []

-- what the slots hold, and the same as the code holds it, make the same record
abbrev answered : AcceptHead → OptionalLocationAccept → List Generic → List Generic → Record
answered h l gs hs = alone M.Accept (accept_of h (slots_from accept.table (only K.LocationAccept l) (generics_in 2 gs hs)))

same_record : (h : Headed AcceptHead) (vs ws : List (Option Element)) (v : Option Element) (gs hs : List Generic) → Each front vs gs → Each back ws hs
    → (format_of M.Accept).finish h (vs ++ (v ∷ ws)) ≡ answered h.head (stored_in K.LocationAccept v) (sets no_generics 0 gs) (sets no_generics 3 hs)
same_record h vs ws v gs hs (one_more (one_more no_more)) (one_more (one_more (one_more (one_more (one_more no_more))))) = refl

abbrev parts : Headed AcceptHead → Parts OptionalLocationAccept Record
parts h = record {
  before = front;
  own = row 5 K.LocationAccept;
  behind = back;
  from = 3;
  out = stored_in K.LocationAccept;
  made = (format_of M.Accept).finish h;
  held = answered h.head;
  same = same_record h;
}

-- each part, where it is read
front_read : (c : In-Ok) → let a = c.args in
    Gives (part accept.table front false a.skipping 0) a.octets.now a.c (placed c.scan_part-a.result.value c.in-Ok.c1)
front_read c = verdict_to _ c.scan_part-a.ensures c.in-Ok.is

slot_read : (c : In-Ok-w) → Gives (location_accept_slot 5) c.args.octets.now c.in-Ok.c1 (placed c.read_structure_slot-d.result.value c.in-Ok-w.c2)
slot_read c = verdict_to _ c.read_structure_slot-d.ensures c.in-Ok-w.is

back_read : (c : In-Ok-x) → let a = c.args in
    Gives (part accept.table back true a.skipping 3) a.octets.now c.in-Ok-w.c2 (placed c.scan_part-b.result.value c.in-Ok-x.c4)
back_read c = verdict_to _ c.scan_part-b.ensures c.in-Ok-x.is

-- the table, of its parts
abbrev whole : In-Ok-x → Fact
unfolding structure_slot
whole c =
    let a = c.args in
    fact (all_read _ a.skipping (parts a.head) (verdict_to _ c.scan_part-a.ensures c.in-Ok.is) (verdict_to _ c.read_structure_slot-d.ensures c.in-Ok-w.is) (back_read c))

pub returns-in_default : goal.returns-in_default
returns-in_default c =
    let a = c.args in
    c.unread.ensures ∙ answer (message_answer (λ r. r.accept)) (no_front_lem _ a.skipping (parts a.head) (verdict_refused _ c.scan_part-a.ensures c.unwrap_err.ensures))

pub returns-in_default-w : goal.returns-in_default-w
unfolding structure_slot
returns-in_default-w c =
    let a = c.args in
    c.unread-in_default-w.ensures ∙ answer (message_answer (λ r. r.accept)) (no_slot _ a.skipping (parts a.head) (front_read ((goal.at.returns-in_default-w c).In-Ok))
    (verdict_refused _ c.read_structure_slot-d.ensures c.unwrap_err-in_default-w.ensures))

-- nothing stands behind the location accept
ended : (c : Then-not-further) → let a = c.args in Gives (part accept.table back true a.skipping 3) a.octets.now c.in-Ok-w.c2 (placed no_slots c.in-Ok-z.c3)
ended c = part-ended _ _ _ _ 3 (from c.in-Ok-z.ensures) c.if-not-further.true

pub returns-in_default-z : goal.returns-in_default-z
unfolding structure_slot
returns-in_default-z c =
    let a = c.args in
    c.unread-in_default-z.ensures ∙ answer (message_answer (λ r. r.accept)) (no_back _ a.skipping (parts a.head) (front_read ((goal.at.returns-in_default-z c).In-Ok))
    (slot_read ((goal.at.returns-in_default-z c).In-Ok-w)) (part-unseen _ _ _ _ 3 (refused_by c.element_follows-z.ensures c.unwrap_err-in_default-z.ensures)))

pub returns-then-not-further : goal.returns-then-not-further
unfolding structure_slot
returns-then-not-further c =
    let a = c.args in
    let n = c.scan_part-a.result.value.skipped in
    let all : n + 0 ≡ n = omega arith in
    rw (c.record_of.ensures, ← all)
    (answer (message_answer (λ r. r.accept)) (all_read _ a.skipping (parts a.head) (front_read ((goal.at.returns-then-not-further c).In-Ok))
    (slot_read ((goal.at.returns-then-not-further c).In-Ok-w)) (ended ((goal.at.returns-then-not-further c).Then-not-further))).is)

pub returns-in_default-x : goal.returns-in_default-x
unfolding structure_slot
returns-in_default-x c =
    let a = c.args in
    c.unread-in_default-x.ensures ∙ answer (message_answer (λ r. r.accept)) (no_back _ a.skipping (parts a.head) (front_read ((goal.at.returns-in_default-x c).In-Ok))
    (slot_read ((goal.at.returns-in_default-x c).In-Ok-w)) (verdict_refused _ c.scan_part-b.ensures c.unwrap_err-in_default-x.ensures))

pub overflow_add-result : goal.overflow_add-result
unfolding structure_slot
overflow_add-result c =
    let most = (whole ((goal.at.overflow_add-result c).In-Ok-x)).holds.most in
    grind arith

pub returns : goal.returns
unfolding structure_slot
returns c = rw c.record_of-2.ensures (answer (message_answer (λ r. r.accept)) (whole ((goal.at.returns c).In-Ok-x)).holds.is)
