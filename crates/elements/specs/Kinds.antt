-- The kinds of outer elements: what an element of each kind holds, how it is read and written, and how a record stores it.
use Rattle.std.specs.Prelude.{ℕ, ◌≡◌, Bool, true, is_some, option_map, unwrap_or}
use Rattle.std.specs.Prelude.{Option, None, Some}
use Rattle.bits.specs.Bits.{Bits}
use Rattle.bits.specs.Reader.{Reader, got, ◌>>=◌}
use Rattle.elements.specs.Numbers.{held, value_or, option_bits}
use Rattle.elements.specs.Generics.{type3, type4, no_type3, no_type4, type3_bits, type4_bits, type3_fits, type4_fits}
use Rattle.elements.specs.Lists.{length_fits, list, list_of, list_bits, list_fits, list_one, list_listed, list_held, list_normal, uplinks, downlinks, SameList}
use Rattle.elements.specs.Locations.{lengths_fit}
use Rattle.elements.specs.Locations.{location_demand, location_demand_bits, location_demand_fits, location_demand_normal, no_location_demand, SameLocationDemand}
use Rattle.elements.specs.Locations.{location_accept, location_accept_bits, location_accept_fits, location_accept_normal, no_location_accept, SameLocationAccept}
use Rattle.elements.specs.declared.typed_pdu_fields.Kind.{Kind}
use Rattle.elements.specs.declared.typed_pdu_fields.Kind.TheVariants as K
use Rattle.elements.specs.declared.typed_pdu_fields.Row.{Row}
use Rattle.elements.specs.declared.typed_pdu_fields.Type3FieldGeneric.{Type3FieldGeneric}
use Rattle.elements.specs.declared.typed_pdu_fields.Type4FieldGeneric.{Type4FieldGeneric}
use Rattle.elements.specs.declared.typed_pdu_fields.OptionalType3.{OptionalType3}
use Rattle.elements.specs.declared.typed_pdu_fields.OptionalType4.{OptionalType4}
use Rattle.elements.specs.declared.group_identity_downlink.OptionalDownlinks.{OptionalDownlinks}
use Rattle.elements.specs.declared.group_identity_location_demand.GroupIdentityLocationDemand.{GroupIdentityLocationDemand}
use Rattle.elements.specs.declared.group_identity_location_demand.OptionalLocationDemand.{OptionalLocationDemand}
use Rattle.elements.specs.declared.group_identity_location_accept.GroupIdentityLocationAccept.{GroupIdentityLocationAccept}
use Rattle.elements.specs.declared.group_identity_location_accept.OptionalLocationAccept.{OptionalLocationAccept}

-- a row of a message's table: a listed identifier, and the kind of element that it opens
abbrev pub row : ℕ → Kind → Row
row i k = record { identifier = i; kind = k }

-- ## what an element of a kind holds

abbrev pub Value : Kind → Type 0
Value K.Type3 = Type3FieldGeneric
Value K.Type4 = Type4FieldGeneric
Value K.LocationDemand = GroupIdentityLocationDemand
Value K.LocationAccept = GroupIdentityLocationAccept
Value K.Downlinks = OptionalDownlinks

-- how its content of n bits is read
abbrev pub kind_content : (k : Kind) → ℕ → Reader (Value k)
kind_content K.Type3 = type3
kind_content K.Type4 = type4
kind_content K.LocationDemand = location_demand
kind_content K.LocationAccept = location_accept
kind_content K.Downlinks = list downlinks

-- its content as it is written
abbrev pub kind_bits : (k : Kind) → Value k → Bits
kind_bits K.Type3 = type3_bits
kind_bits K.Type4 = type4_bits
kind_bits K.LocationDemand = location_demand_bits
kind_bits K.LocationAccept = location_accept_bits
kind_bits K.Downlinks = list_bits downlinks

-- QUESTION 8
abbrev pub kind_fits : (k : Kind) → Value k → Bool
kind_fits K.Type3 v = type3_fits v
kind_fits K.Type4 v = type4_fits v
kind_fits K.LocationDemand v = location_demand_fits v
kind_fits K.LocationAccept v = location_accept_fits v
kind_fits K.Downlinks v = list_fits downlinks v

-- QUESTION 10
abbrev pub kind_one : (k : Kind) → Value k → Bool
kind_one K.Type3 v = true
kind_one K.Type4 v = true
kind_one K.LocationDemand v = list_one uplinks v.group_identity_uplink
kind_one K.LocationAccept v = list_one downlinks v.group_identity_downlink
kind_one K.Downlinks v = list_one downlinks v

-- QUESTION 11
abbrev pub kind_listed : (k : Kind) → Value k → Bool
kind_listed K.Type3 v = true
kind_listed K.Type4 v = true
kind_listed K.LocationDemand v = list_listed uplinks v.group_identity_uplink
kind_listed K.LocationAccept v = list_listed downlinks v.group_identity_downlink
kind_listed K.Downlinks v = list_listed downlinks v

-- QUESTION 15
abbrev pub kind_short : (k : Kind) → Value k → Bool
kind_short K.Type3 v = true
kind_short K.Type4 v = true
kind_short K.LocationDemand v = lengths_fit uplinks (location_demand_bits v) v.group_identity_uplink
kind_short K.LocationAccept v = lengths_fit downlinks (location_accept_bits v) v.group_identity_downlink
kind_short K.Downlinks v = length_fits (list_bits downlinks v)

abbrev pub kind_normal : (k : Kind) → Value k → Value k
kind_normal K.Type3 v = v
kind_normal K.Type4 v = v
kind_normal K.LocationDemand v = location_demand_normal v
kind_normal K.LocationAccept v = location_accept_normal v
kind_normal K.Downlinks v = list_normal downlinks v

-- what is present in both is equal
abbrev pub SameValue : (k : Kind) → Value k → Value k → Type 0
SameValue K.Type3 v w = v ≡ w
SameValue K.Type4 v w = v ≡ w
SameValue K.LocationDemand v w = SameLocationDemand v w
SameValue K.LocationAccept v w = SameLocationAccept v w
SameValue K.Downlinks v w = SameList downlinks v w

-- ## elements of any kind, in a table's slots

pub data Element : Type 0 where
  of_kind : (k : Kind) → Value k → Element

-- what a slot of a kind holds: nothing of an element of another kind
abbrev pub value_in : (k : Kind) → Option Element → Option (Value k)
value_in K.Type3 (Some (of_kind K.Type3 v)) = Some v
value_in K.Type4 (Some (of_kind K.Type4 v)) = Some v
value_in K.LocationDemand (Some (of_kind K.LocationDemand v)) = Some v
value_in K.LocationAccept (Some (of_kind K.LocationAccept v)) = Some v
value_in K.Downlinks (Some (of_kind K.Downlinks v)) = Some v
value_in k o = None

abbrev pub identifier_of : Row → ℕ
identifier_of r = r.identifier

unfoldable pub content : Row → ℕ → Reader Element
content r n = kind_content r.kind n >>= λ v. got (of_kind r.kind v)

unfoldable pub content_bits : Row → Element → Bits
content_bits r e = option_bits (kind_bits r.kind) (value_in r.kind (Some e))

unfoldable pub element_normal : Row → Element → Element
element_normal r e = unwrap_or (option_map (λ v. of_kind r.kind (kind_normal r.kind v)) (value_in r.kind (Some e))) e

-- ## how a record stores what may be absent: presence, and a value that is zero where there is none

abbrev pub Stored : Kind → Type 0
Stored K.Type3 = OptionalType3
Stored K.Type4 = OptionalType4
Stored K.LocationDemand = OptionalLocationDemand
Stored K.LocationAccept = OptionalLocationAccept
Stored K.Downlinks = OptionalDownlinks

abbrev pub stored : (k : Kind) → Option (Value k) → Stored k
stored K.Type3 o = record { present = is_some o; value = value_or no_type3 o }
stored K.Type4 o = record { present = is_some o; value = value_or no_type4 o }
stored K.LocationDemand o = record { present = is_some o; value = value_or no_location_demand o }
stored K.LocationAccept o = record { present = is_some o; value = value_or no_location_accept o }
stored K.Downlinks o = value_or (list_of downlinks None) o

-- and back
abbrev pub held_in : (k : Kind) → Stored k → Option (Value k)
held_in K.Type3 s = held s.present s.value
held_in K.Type4 s = held s.present s.value
held_in K.LocationDemand s = held s.present s.value
held_in K.LocationAccept s = held s.present s.value
held_in K.Downlinks s = list_held downlinks s

-- a slot as a record stores it, and the other way
abbrev pub stored_in : (k : Kind) → Option Element → Stored k
stored_in k o = stored k (value_in k o)

abbrev pub slot_of : (k : Kind) → Stored k → Option Element
slot_of k s = option_map (of_kind k) (held_in k s)
