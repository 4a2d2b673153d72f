-- `elements::group_identity_location_demand::GroupIdentityLocationDemandReadStructure::from_bitbuf` meets its contract: by the laws of a list inside a
-- structure, and of a structure of a declared length.
use Rattle.std.specs.Prelude.{ℕ, ◌≤◌, ◌<◌, List}
use Rattle.std.proofs.Common.{arith, ◌∙◌, eq-eqb, ne_eqb}
use Rattle.bits.specs.PduParseError.{invalid_value}
use Rattle.bits.specs.Reader.{got, ◌>>=◌, field, word}
use Rattle.bits.specs.ReaderLaws.{local·rules, local_tail}
use Rattle.bits.specs.Placed.{Placed, placed, halted}
use Rattle.bits.specs.PlacedLaws.{Gives, from, refused_by, step, stop}
use Rattle.bits.specs.PlacedTimes.{passed, failed, exact-stop}
use Rattle.bits.specs.declared.bitbuffer.Cursor.{Cursor}
use Rattle.elements.specs.Numbers.{flag_width}
use Rattle.elements.specs.Lists.{uplinks}
use Rattle.elements.proofs.ListsLaws.{uplinks_sound}
use Rattle.elements.specs.Locations.{nested, group_identity_uplink_identifier, demand_body, location_demand}
use Rattle.elements.proofs.LocationsLaws.{demand_of, demand_laws}
use Rattle.elements.specs.GroupAnswers.{location_demands, structure_answer}
use Rattle.elements.proofs.Verdicts.{answer, verdict_to, verdict_refused}
use Rattle.elements.proofs.PlacedLocations.{structure-refused, structure-on, structure-whole, structure-inexact}
use Rattle.elements.specs.declared.group_identity_location_demand.GroupIdentityLocationDemand.{GroupIdentityLocationDemand}
use Rattle.elements.proofs.group_identity_location_demand.GroupIdentityLocationDemandReadStructure.from_bitbuf.Goals as goal
use Rattle.elements.proofs.group_identity_location_demand.GroupIdentityLocationDemandReadStructure.from_bitbuf.Goals.{In-Ok-m, In-Ok-v}

module _ {os : List ℕ} {c c₁ : Cursor} {r : ℕ} (e : Gives (field flag_width) os c (placed r c₁)) where
  -- the reserved bit is not 0
  reserved : 0 < r → Gives demand_body os c (halted invalid_value)
  unfolding demand_body
  reserved h = step _ e (search local·rules) (stop _ (failed invalid_value (ne_eqb r 0 (λ q. omega arith))))

  -- it is 0: behind it stand the mode and the list
  mode-behind : r ≤ 0 → (x : Placed GroupIdentityLocationDemand)
      → Gives (field flag_width >>= λ m. nested uplinks group_identity_uplink_identifier >>= λ l. got (demand_of m l)) os c₁ x → Gives demand_body os c x
  unfolding demand_body
  mode-behind h x g = step _ e (search local·rules) (step _ (passed invalid_value (eq-eqb r 0 (omega arith))) (search local·rules) g)

-- the reserved bit, and behind it and the mode the list
list-behind : (c : In-Ok-m) (x : Placed GroupIdentityLocationDemand) → let a = c.args in
    Gives (nested uplinks group_identity_uplink_identifier >>= λ l. got (demand_of c.in-Ok-m.mode l)) a.octets.now c.in-Ok-m.c2 x
    → Gives demand_body a.octets.now a.c x
unfolding word
list-behind c x g =
    let unset : c.in-Ok.reserved ≤ 0 = omega (arith, c.if-reserved-gt0.false) in
    mode-behind (from c.in-Ok.ensures) unset x (step _ (from c.in-Ok-m.ensures) (search local·rules) g)

-- the list, with the closing M-bit
closed : (c : In-Ok-v) → Gives (nested uplinks group_identity_uplink_identifier) c.args.octets.now c.in-Ok-m.c2 (placed c.read_nested-v.new.list c.in-Ok-v.c3)
closed c = verdict_to _ c.read_nested-v.ensures c.in-Ok-v.is

pub returns-in_default : goal.returns-in_default
unfolding word demand_body location_demand
returns-in_default c =
    c.refused.ensures ∙ answer (structure_answer location_demands) (exact-stop c.args.len (stop _ (refused_by c.read-f.ensures c.unwrap_err.ensures)))

pub returns-then-reserved-gt0 : goal.returns-then-reserved-gt0
unfolding word location_demand
returns-then-reserved-gt0 c =
    let is_set : 0 < c.in-Ok.reserved = omega (arith, c.if-reserved-gt0.true) in
    c.refused-then-reserved-gt0.ensures ∙ answer (structure_answer location_demands) (exact-stop c.args.len (reserved (from c.in-Ok.ensures) is_set))

pub returns-in_default-m : goal.returns-in_default-m
unfolding word location_demand
returns-in_default-m c =
    let unset : c.in-Ok.reserved ≤ 0 = omega (arith, c.if-reserved-gt0.false) in
    c.refused-in_default-m.ensures ∙ answer (structure_answer location_demands) (exact-stop c.args.len (mode-behind (from c.in-Ok.ensures) unset _
    (stop _ (refused_by c.read-m.ensures c.unwrap_err-in_default-m.ensures))))

pub returns-in_default-v : goal.returns-in_default-v
unfolding location_demand
returns-in_default-v c =
    c.refused-in_default-v.ensures ∙ answer (structure_answer location_demands)
    (structure-refused uplinks_sound group_identity_uplink_identifier _ (local_tail demand_laws.body-local) (list-behind ((goal.at.returns-in_default-v c).In-Ok-m)) c.args.len
    (verdict_refused _ c.read_nested-v.ensures c.unwrap_err-in_default-v.ensures))

pub overflow_sub-c3 : goal.overflow_sub-c3
overflow_sub-c3 c =
    structure-on uplinks_sound group_identity_uplink_identifier _ (local_tail demand_laws.body-local) (list-behind ((goal.at.overflow_sub-c3 c).In-Ok-m)) c.args.len
    (closed ((goal.at.overflow_sub-c3 c).In-Ok-v))

pub returns-then-c3-c : goal.returns-then-c3-c
unfolding location_demand
returns-then-c3-c c =
    answer (structure_answer location_demands)
    (structure-whole uplinks_sound group_identity_uplink_identifier _ (local_tail demand_laws.body-local) (list-behind ((goal.at.returns-then-c3-c c).In-Ok-m)) c.args.len
    (closed ((goal.at.returns-then-c3-c c).In-Ok-v)) c.if-c3-c.true)

pub returns : goal.returns
unfolding location_demand
returns c =
    c.refused-2.ensures ∙ answer (structure_answer location_demands)
    (structure-inexact uplinks_sound group_identity_uplink_identifier _ (local_tail demand_laws.body-local) (list-behind ((goal.at.returns c).In-Ok-m)) c.args.len
    (closed ((goal.at.returns c).In-Ok-v)) c.if-c3-c.false)
