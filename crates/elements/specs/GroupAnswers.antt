-- What the code's answers say of lists and structures.
use Rattle.std.specs.Prelude.{ℕ, Bool, true, false}
use Rattle.std.specs.Prelude.{Option, None}
use Rattle.bits.specs.Reader.{Reader, got, ◌>>=◌}
use Rattle.bits.specs.Placed.{Placed}
use Rattle.elements.specs.Numbers.{value_or}
use Rattle.elements.specs.Table.{slot}
use Rattle.elements.specs.Lists.{Groups, list, list_of}
use Rattle.elements.specs.Locations.{location_demand, no_location_demand, location_accept, no_location_accept}
use Rattle.elements.specs.Kinds.{Element, of_kind, row, identifier_of, content, stored_in}
use Rattle.elements.specs.declared.typed_pdu_fields.Kind.{Kind}
use Rattle.elements.specs.declared.typed_pdu_fields.Kind.TheVariants as K
use Rattle.elements.specs.Answers.{judged}
use Rattle.elements.specs.declared.typed_pdu_fields.Judged.{Judged}
use Rattle.elements.specs.declared.group_identity_downlink.OptionalDownlinks.{OptionalDownlinks}
use Rattle.elements.specs.declared.group_identity_location_demand.GroupIdentityLocationDemand.{GroupIdentityLocationDemand}
use Rattle.elements.specs.declared.group_identity_location_demand.OptionalLocationDemand.{OptionalLocationDemand}
use Rattle.elements.specs.declared.group_identity_location_accept.GroupIdentityLocationAccept.{GroupIdentityLocationAccept}
use Rattle.elements.specs.declared.group_identity_location_accept.OptionalLocationAccept.{OptionalLocationAccept}

-- ## groups and lists

abbrev pub list_answer : {G L : Type 0} → Groups G L → Placed L → Judged L
list_answer k = judged (list_of k None)

-- ## structures

-- the slot of a list inside a structure
unfoldable pub nested_slot : {G L : Type 0} → Groups G L → ℕ → Reader L
nested_slot k i = slot (λ i. i) (λ i. list k) i >>= λ o. got (value_or (list_of k None) o)

-- the same where there is such a slot
abbrev pub nested_slot_if : {G L : Type 0} → Groups G L → ℕ → Bool → Reader L
nested_slot_if k i true = nested_slot k i
nested_slot_if k i false = got (list_of k None)

-- a structure D of a message, and what holds it in a record, O
pub record Structures (D O : Type 0) : Type 1 where
  pub kind : Kind
  -- its n bits
  pub content : ℕ → Reader D
  pub is : D → Element
  -- a slot as the record holds it
  pub out : Option Element → O
  -- what stands where there is none
  pub none : D
  pub make : Bool → D → O

abbrev pub location_demands : Structures GroupIdentityLocationDemand OptionalLocationDemand
location_demands = record {
  kind = K.LocationDemand;
  content = location_demand;
  is = of_kind K.LocationDemand;
  out = stored_in K.LocationDemand;
  none = no_location_demand;
  make = λ p d. record { present = p; value = d };
}

abbrev pub location_accepts : Structures GroupIdentityLocationAccept OptionalLocationAccept
location_accepts = record {
  kind = K.LocationAccept;
  content = location_accept;
  is = of_kind K.LocationAccept;
  out = stored_in K.LocationAccept;
  none = no_location_accept;
  make = λ p d. record { present = p; value = d };
}

module _ {D O : Type 0} (k : Structures D O) where
  -- the slot of a message's table that holds it
  unfoldable pub structure_slot : ℕ → Reader O
  structure_slot i = slot identifier_of content (row i k.kind) >>= λ o. got (k.out o)

  abbrev pub structure_answer : Placed D → Judged D
  structure_answer = judged k.none

  abbrev pub structure_slot_answer : Placed O → Judged O
  structure_slot_answer = judged (k.make false k.none)

abbrev pub location_demand_slot : ℕ → Reader OptionalLocationDemand
location_demand_slot = structure_slot location_demands

abbrev pub location_accept_slot : ℕ → Reader OptionalLocationAccept
location_accept_slot = structure_slot location_accepts

-- the same of the outer list
unfoldable pub downlinks_slot : ℕ → Reader OptionalDownlinks
downlinks_slot i = slot identifier_of content (row i K.Downlinks) >>= λ o. got (stored_in K.Downlinks o)
