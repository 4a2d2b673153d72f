-- `messages::u_location_update_demand::read_elements` meets its contract: no slot stands before its own one, and a part of the table behind it. No
-- count overflows: each element skipped is a bit at least. Assumes nothing.
use Prim.Native.Nat.{◌+◌}
use mathlib.Core.Path.{◌≡◌, refl, ◌∙◌}
use native.Mathlib.Omega.{arith}
use mathlib.Core.Bool.{true, false}
use Rattle.std.specs.Prelude.{Option, get_or}
use mathlib.Core.List.{List, [], ◌∷◌, ◌++◌}
use lib.Seq.{sets}
use Rattle.bits.specs.Placed.{placed}
use Rattle.bits.specs.PlacedLaws.{Gives, from, refused_by, Fact, fact}
use Rattle.elements.specs.Kinds.{Element, row, stored_in}
use Rattle.elements.specs.Rows.{part, no_generic, no_generics}
use Rattle.elements.specs.GroupAnswers.{location_demand_slot, structure_slot}
use Rattle.elements.proofs.Verdicts.{answer, verdict_to, verdict_refused}
use Rattle.elements.proofs.PlacedPart.{no_slots, part-ended, part-unseen}
use Rattle.elements.proofs.Parts.{Each, no_more, one_more, Parts, empty-part, empty-part-refused, no_front_lem, no_slot, no_back, all_read}
use Rattle.elements.specs.declared.typed_pdu_fields.Generic.{Generic}
use Rattle.elements.specs.declared.typed_pdu_fields.Kind.TheVariants as K
use Rattle.elements.specs.declared.typed_pdu_fields.Row.{Row}
use Rattle.elements.specs.declared.group_identity_location_demand.OptionalLocationDemand.{OptionalLocationDemand}
use Rattle.messages.specs.Demand.{demand, demand_of}
use Rattle.messages.specs.Calls.{alone, format_of}
use Rattle.messages.specs.MessageAnswers.{only, slots_from, message_answer}
use Rattle.messages.specs.declared.Headed.{Headed}
use Rattle.messages.specs.declared.Message.TheVariants as M
use Rattle.messages.specs.declared.u_location_update_demand.DemandHead.{DemandHead}
use Rattle.messages.specs.declared.Record.{Record}
use Rattle.messages.proofs.u_location_update_demand.read_elements.Goals as goal
use Rattle.messages.proofs.u_location_update_demand.read_elements.Goals.{In-Ok, In-Ok-w, In-Ok-x, Then-not-further}

-- the slots before the own one, and those behind it
abbrev front : List Row
front = []

abbrev back : List Row
back = record { identifier = 4; kind = K.Type3 } ∷ record { identifier = 9; kind = K.Type3 } ∷ record { identifier = 11; kind = K.Type3 } ∷ record { identifier = 15; kind = K.Type3 } ∷ []

-- what the slots hold, and the same as the code holds it, make the same record
abbrev answered : DemandHead → OptionalLocationDemand → List Generic → Record
answered h l gs = alone M.Demand (demand_of h (slots_from demand.table (only K.LocationDemand l) (λ i. get_or gs i no_generic)))

same_record : (h : Headed DemandHead) (vs ws : List (Option Element)) (v : Option Element) (gs hs : List Generic) → Each front vs gs → Each back ws hs
    → (format_of M.Demand).finish h (vs ++ (v ∷ ws)) ≡ answered h.head (stored_in K.LocationDemand v) (sets no_generics 1 hs)
same_record h vs ws v gs hs no_more (one_more (one_more (one_more (one_more no_more)))) = refl

abbrev parts : Headed DemandHead → Parts OptionalLocationDemand Record
parts h = record {
  before = front;
  own = row 3 K.LocationDemand;
  behind = back;
  from = 1;
  out = stored_in K.LocationDemand;
  made = (format_of M.Demand).finish h;
  held = λ l gs hs. answered h.head l hs;
  same = same_record h;
}

-- each part, where it is read
front_read : (c : In-Ok) → let a = c.args in
    Gives (part demand.table front false a.skipping 0) a.octets.now a.c (placed (record { skipped = c.in-Ok.n; generics = no_generics }) c.in-Ok.c1)
front_read c = empty-part _ _ false 0 (from c.in-Ok.ensures)

slot_read : (c : In-Ok-w) → Gives (location_demand_slot 3) c.args.octets.now c.in-Ok.c1 (placed c.read_structure_slot-d.result.value c.in-Ok-w.c2)
slot_read c = verdict_to _ c.read_structure_slot-d.ensures c.in-Ok-w.is

back_read : (c : In-Ok-x) → let a = c.args in
    Gives (part demand.table back true a.skipping 1) a.octets.now c.in-Ok-w.c2 (placed c.scan_part-b.result.value c.in-Ok-x.c4)
back_read c = verdict_to _ c.scan_part-b.ensures c.in-Ok-x.is

-- the table, of its parts
abbrev whole : In-Ok-x → Fact
unfolding structure_slot
whole c =
    let a = c.args in
    fact (all_read _ a.skipping (parts a.head) (empty-part _ _ false 0 (from c.in-Ok.ensures)) (verdict_to _ c.read_structure_slot-d.ensures c.in-Ok-w.is) (back_read c))

pub returns-in_default : goal.returns-in_default
returns-in_default c =
    let a = c.args in
    c.unread.ensures ∙ answer (message_answer (λ r. r.demand)) (no_front_lem _ a.skipping (parts a.head) (empty-part-refused _ _ false 0 (refused_by c.skip_if-s.ensures c.unwrap_err.ensures)))

pub returns-in_default-w : goal.returns-in_default-w
unfolding structure_slot
returns-in_default-w c =
    let a = c.args in
    c.unread-in_default-w.ensures ∙ answer (message_answer (λ r. r.demand)) (no_slot _ a.skipping (parts a.head) (front_read ((goal.at.returns-in_default-w c).In-Ok))
    (verdict_refused _ c.read_structure_slot-d.ensures c.unwrap_err-in_default-w.ensures))

-- nothing stands behind the location demand
ended : (c : Then-not-further) → let a = c.args in Gives (part demand.table back true a.skipping 1) a.octets.now c.in-Ok-w.c2 (placed no_slots c.in-Ok-z.c3)
ended c = part-ended _ _ _ _ 1 (from c.in-Ok-z.ensures) c.if-not-further.true

pub returns-in_default-z : goal.returns-in_default-z
unfolding structure_slot
returns-in_default-z c =
    let a = c.args in
    c.unread-in_default-z.ensures ∙ answer (message_answer (λ r. r.demand)) (no_back _ a.skipping (parts a.head) (front_read ((goal.at.returns-in_default-z c).In-Ok))
    (slot_read ((goal.at.returns-in_default-z c).In-Ok-w)) (part-unseen _ _ _ _ 1 (refused_by c.element_follows-z.ensures c.unwrap_err-in_default-z.ensures)))

pub returns-then-not-further : goal.returns-then-not-further
unfolding structure_slot
returns-then-not-further c =
    let a = c.args in
    let all : c.in-Ok.n + 0 ≡ c.in-Ok.n = omega arith in
    rw (c.record_of.ensures, ← all)
    (answer (message_answer (λ r. r.demand)) (all_read _ a.skipping (parts a.head) (front_read ((goal.at.returns-then-not-further c).In-Ok))
    (slot_read ((goal.at.returns-then-not-further c).In-Ok-w)) (ended ((goal.at.returns-then-not-further c).Then-not-further))).is)

pub returns-in_default-x : goal.returns-in_default-x
unfolding structure_slot
returns-in_default-x c =
    let a = c.args in
    c.unread-in_default-x.ensures ∙ answer (message_answer (λ r. r.demand)) (no_back _ a.skipping (parts a.head) (front_read ((goal.at.returns-in_default-x c).In-Ok))
    (slot_read ((goal.at.returns-in_default-x c).In-Ok-w)) (verdict_refused _ c.scan_part-b.ensures c.unwrap_err-in_default-x.ensures))

pub overflow_add-result : goal.overflow_add-result
unfolding structure_slot
overflow_add-result c =
    let most = (whole ((goal.at.overflow_add-result c).In-Ok-x)).holds.most in
    grind arith

pub returns : goal.returns
unfolding structure_slot
returns c = rw c.record_of-2.ensures (answer (message_answer (λ r. r.demand)) (whole ((goal.at.returns c).In-Ok-x)).holds.is)
