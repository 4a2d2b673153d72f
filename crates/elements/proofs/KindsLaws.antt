-- Laws of the kinds of outer elements: local, of their declared length, read back, and their own normal form when read.
use Rattle.std.specs.Prelude.{ℕ, ◌^◌, ◌≤◌, ◌<◌, ◌≡◌, refl, Bool, true, ◌++◌, length, leb, option_map, Option, None, Some}
use Rattle.std.proofs.Common.{arith, length-append, leb-true, ltb-true}
use Rattle.bits.specs.Bits.{Bits, digits}
use Rattle.bits.specs.BitsLaws.{length_digits}
use Rattle.bits.specs.Reader.{Reader, got, Local}
use Rattle.bits.specs.ReaderLaws.{got-local, bind_local, Passes, got-passes, bind_passes}
use Rattle.elements.specs.Table.{length_width}
use Rattle.elements.specs.Numbers.{option_all, held}
use Rattle.elements.proofs.TableBack.{Back, SlotBack}
use Rattle.elements.proofs.NumbersLaws.{both}
use Rattle.elements.specs.Generics.{data_width, entries_width, type3_bits, type4_bits, type3_fits, type4_fits}
use Rattle.elements.proofs.GenericsLaws.{type3-local, type4-local, type3-passes, type4-passes, type3-back, type4-back}
use Rattle.elements.specs.Lists.{entries_most, length_fits, Groups, list_one, list_listed, downlinks}
use Rattle.elements.proofs.ListsLaws.{downlinks_sound, list-local, list-passes, list_back, list-own, list_same, list_normal-same}
use Rattle.elements.specs.Locations.{lengths_fit}
use Rattle.elements.proofs.LocationsLaws.{Structure, demand_laws, accept_laws}
use Rattle.elements.specs.Kinds.{row, Value, kind_content, kind_fits, kind_one, kind_listed, kind_short, kind_normal, SameValue, of_kind, content, content_bits, element_normal, Stored, held_in, slot_of}
use Rattle.elements.specs.declared.group_identity_location_demand.OptionalLocationDemand.{OptionalLocationDemand}
use Rattle.elements.specs.declared.group_identity_location_accept.OptionalLocationAccept.{OptionalLocationAccept}
use Rattle.elements.specs.declared.typed_pdu_fields.Kind.{Kind}
use Rattle.elements.specs.declared.typed_pdu_fields.Kind.TheVariants as K
use Rattle.elements.specs.declared.typed_pdu_fields.Row.{Row}
use Rattle.elements.specs.declared.typed_pdu_fields.Type3FieldGeneric.{Type3FieldGeneric}
use Rattle.elements.specs.declared.typed_pdu_fields.Type4FieldGeneric.{Type4FieldGeneric}

-- ## what a content uses

kind-local : (k : Kind) (n : ℕ) → Local (kind_content k n)
kind-local K.Type3 = type3-local
kind-local K.Type4 = type4-local
kind-local K.LocationDemand = demand_laws.local
kind-local K.LocationAccept = accept_laws.local
kind-local K.Downlinks = list-local downlinks downlinks_sound.local

pub content-local : (r : Row) (n : ℕ) → Local (content r n)
unfolding content
content-local r n = bind_local (kind_content r.kind n) _ (kind-local r.kind n) (λ v. got-local (of_kind r.kind v))

kind-passes : (k : Kind) (n : ℕ) → Passes n (kind_content k n)
kind-passes K.Type3 = type3-passes
kind-passes K.Type4 = type4-passes
kind-passes K.LocationDemand = demand_laws.passes
kind-passes K.LocationAccept = accept_laws.passes
kind-passes K.Downlinks = list-passes downlinks_sound

pub content-passes : (r : Row) (n : ℕ) → Passes n (content r n)
unfolding content
content-passes r n = bind_passes n 0 (kind_content r.kind n) _ (omega arith) (kind-passes r.kind n) (λ v. got-passes (of_kind r.kind v))

-- ## the normal form

-- what was read is its own
pub kind-own : (k : Kind) (n : ℕ) (bs : Bits) {v : Value k} {rest : Bits} → kind_content k n bs ≡ got v rest → kind_normal k v ≡ v
kind-own K.Type3 n bs e = refl
kind-own K.Type4 n bs e = refl
kind-own K.LocationDemand n bs e = demand_laws.own n bs _ _ e
kind-own K.LocationAccept n bs e = accept_laws.own n bs _ _ e
kind-own K.Downlinks n bs e = list-own downlinks_sound n bs e

-- values that are the same have one
pub kind-same : (k : Kind) (v w : Value k) → SameValue k v w → kind_normal k v ≡ kind_normal k w
kind-same K.Type3 v w e = e
kind-same K.Type4 v w e = e
kind-same K.LocationDemand v w e = demand_laws.same v w e
kind-same K.LocationAccept v w e = accept_laws.same v w e
kind-same K.Downlinks v w e = list_same downlinks_sound e

-- ## reading back

-- the array of its list has all its entries, and an outer list is there
abbrev pub Full : (k : Kind) → Value k → Type 0
Full K.Type3 v = Unit
Full K.Type4 v = Unit
Full K.LocationDemand v = length v.group_identity_uplink.groups ≡ entries_most
Full K.LocationAccept v = length v.group_identity_downlink.groups ≡ entries_most
Full K.Downlinks v = (v.present ≡ true) × (length v.groups ≡ entries_most)

pub kind_normal-same : (k : Kind) (v : Value k) → kind_fits k v ≡ true → Full k v → SameValue k v (kind_normal k v)
kind_normal-same K.Type3 v f full = refl
kind_normal-same K.Type4 v f full = refl
kind_normal-same K.LocationDemand v f full = demand_laws.normal-same v f full
kind_normal-same K.LocationAccept v f full = accept_laws.normal-same v f full
kind_normal-same K.Downlinks v f full = list_normal-same downlinks_sound v f full.1

type3-short : (g : Type3FieldGeneric) → type3_fits g ≡ true → length (type3_bits g) < 2 ^ length_width
unfolding type3_bits type3_fits
type3-short g f =
    let few : g.len ≤ data_width = leb-true _ _ (both (leb g.len data_width) _ f).0 in
    omega (arith, length_digits g.len g.«data»)

type4-short : (g : Type4FieldGeneric) → type4_fits g ≡ true → length (type4_bits g) < 2 ^ length_width
unfolding type4_bits type4_fits
type4-short g f =
    let few : g.len ≤ data_width = leb-true _ _ (both (leb g.len data_width) _ f).0 in
    omega (arith, length-append (digits entries_width g.elems) (digits g.len g.«data»), length_digits entries_width g.elems, length_digits g.len g.«data»)

-- a structure with a list inside, where the answers to the questions are enough
module _ {G L D : Type 0} {k : Groups G L} {inner : D → L} {body : Reader D} {structure : ℕ → Reader D} {bits : D → Bits} {fits : D → Bool} {normal : D → D}
    {Same : D → D → Type 0} (laws : Structure k inner body structure bits fits normal Same) (d : D) where
  record StructureBack : Type 0 where
    short : length (bits d) < 2 ^ length_width
    reads : (rest : Bits) → structure (length (bits d)) (bits d ++ rest) ≡ got (normal d) rest

  structure-back : length (k.groups (inner d)) ≡ entries_most → fits d ≡ true → list_one k (inner d) ≡ true → list_listed k (inner d) ≡ true
      → lengths_fit k (bits d) (inner d) ≡ true → StructureBack
  structure-back full f o l h =
      let x = both (length_fits (bits d)) _ h in
      record {
        short = ltb-true _ _ x.0;
        reads = laws.back d f (record { array = full; fits = laws.inner-fits d f; one = o; listed = l; short = ltb-true _ _ x.1 });
      }

-- A CONTENT IS READ BACK, in normal form
pub kind_back : (i : ℕ) (k : Kind) (v : Value k) → Full k v → kind_fits k v ≡ true → kind_one k v ≡ true → kind_listed k v ≡ true → kind_short k v ≡ true
    → Back content content_bits element_normal (row i k) (of_kind k v)
unfolding content content_bits element_normal
kind_back i K.Type3 v full f o l h = record { short = type3-short v f; reads = λ rest. rw (type3-back v f rest) }
kind_back i K.Type4 v full f o l h = record { short = type4-short v f; reads = λ rest. rw (type4-back v f rest) }
kind_back i K.LocationDemand v full f o l h = let b = structure-back demand_laws v full f o l h in record { short = b.short; reads = λ rest. rw (b.reads rest) }
kind_back i K.LocationAccept v full f o l h = let b = structure-back accept_laws v full f o l h in record { short = b.short; reads = λ rest. rw (b.reads rest) }
kind_back i K.Downlinks v full f o l h = record { short = ltb-true _ _ h; reads = λ rest. rw (list_back downlinks_sound v full.0 full.1 f o l rest) }

-- what holds of a value, where one is held
abbrev pub IfHeld : {A : Type 0} → (A → Type 0) → Option A → Type 0
IfHeld P None = Unit
IfHeld P (Some a) = P a

-- A SLOT IS READ BACK, of an element that may be absent
pub slot-back : (i : ℕ) (k : Kind) (o : Option (Value k)) → IfHeld (Full k) o → option_all (kind_fits k) o ≡ true → option_all (kind_one k) o ≡ true
    → option_all (kind_listed k) o ≡ true → option_all (kind_short k) o ≡ true → SlotBack content content_bits element_normal (row i k) (option_map (of_kind k) o)
slot-back i k None full f o l h = tt
slot-back i k (Some v) full f o l h = kind_back i k v full f o l h

-- and so the slots of the two structures
abbrev pub StructureSlotBack : (k : Kind) → (i : ℕ) → Stored k → Type 0
StructureSlotBack k i s =
    IfHeld (Full k) (held_in k s) → option_all (kind_fits k) (held_in k s) ≡ true → option_all (kind_one k) (held_in k s) ≡ true
    → option_all (kind_listed k) (held_in k s) ≡ true → option_all (kind_short k) (held_in k s) ≡ true
    → SlotBack content content_bits element_normal (row i k) (slot_of k s)

pub location_demand_slot-back : (i : ℕ) (o : OptionalLocationDemand) → StructureSlotBack K.LocationDemand i o
location_demand_slot-back i o = slot-back i K.LocationDemand (held o.present o.value)

pub location_accept_slot-back : (i : ℕ) (o : OptionalLocationAccept) → StructureSlotBack K.LocationAccept i o
location_accept_slot-back i o = slot-back i K.LocationAccept (held o.present o.value)
