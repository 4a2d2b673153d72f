-- Laws of a table's slots: what was written is read back, and what is read is its own normal form.
use Rattle.std.specs.Prelude.{ℕ, ◌≡◌, refl, Bool, true, false, List, [], ◌∷◌, map, length, option_map, Option, None, Some}
use Rattle.std.proofs.Common.{ap}
use Rattle.bits.specs.Bits.{Bits}
use Rattle.bits.specs.Reader.{got}
use Rattle.bits.specs.ReaderLaws.{split-then}
use Rattle.elements.specs.Numbers.{option_all, held}
use Rattle.elements.proofs.NumbersLaws.{both, held-option}
use Rattle.elements.specs.Table.{Counted, scan_table}
use Rattle.elements.proofs.TableLaws.{AllSlots, slots_end, one-slot, scan-all}
use Rattle.elements.proofs.TableBack.{SlotsBack, normal_slot, normal_slots}
use Rattle.elements.specs.Generics.{no_type3, no_type4}
use Rattle.elements.specs.Lists.{entries_most, list_normal}
use Rattle.elements.specs.Locations.{no_location_demand, no_location_accept}
use Rattle.elements.specs.Kinds.{Value, kind_content, kind_normal, SameValue, Element, of_kind, value_in, identifier_of, content, content_bits, element_normal, Stored, stored, held_in, stored_in}
use Rattle.elements.proofs.KindsLaws.{kind-own, kind-same, Full, IfHeld, kind_normal-same, slot-back}
use Rattle.elements.specs.declared.typed_pdu_fields.Kind.{Kind}
use Rattle.elements.specs.declared.typed_pdu_fields.Kind.TheVariants as K
use Rattle.elements.specs.declared.typed_pdu_fields.Row.{Row}
use Rattle.messages.specs.Questions.{Question, fits, attached, formed, short}
use Rattle.messages.specs.Description.{Slots, slots_in, elements_of, kind_asked, slots_asked, slots_normal, SameHeld, SameSlots}
use Rattle.messages.proofs.DescriptionLaws.{of_reading, Readable}
use Rattle.messages.proofs.DescriptionBack.{held-same}
use Rattle.messages.proofs.FullLists.{kind-full}

-- ## one slot

pub value-of : (k : Kind) (v : Value k) → value_in k (Some (of_kind k v)) ≡ Some v
value-of K.Type3 v = refl
value-of K.Type4 v = refl
value-of K.LocationDemand v = refl
value-of K.LocationAccept v = refl
value-of K.Downlinks v = refl

pub value-none : (k : Kind) → value_in k None ≡ None
value-none K.Type3 = refl
value-none K.Type4 = refl
value-none K.LocationDemand = refl
value-none K.LocationAccept = refl
value-none K.Downlinks = refl

-- an outer list is there
abbrev pub There : (k : Kind) → Value k → Type 0
There K.Type3 v = Unit
There K.Type4 v = Unit
There K.LocationDemand v = Unit
There K.LocationAccept v = Unit
There K.Downlinks v = v.present ≡ true

full_there : (k : Kind) (v : Value k) → Full k v → There k v
full_there K.Type3 v f = tt
full_there K.Type4 v f = tt
full_there K.LocationDemand v f = tt
full_there K.LocationAccept v f = tt
full_there K.Downlinks v f = f.0

normal_there : (k : Kind) (v : Value k) → Full k v → There k (kind_normal k v)
unfolding list_normal
normal_there K.Type3 v f = tt
normal_there K.Type4 v f = tt
normal_there K.LocationDemand v f = tt
normal_there K.LocationAccept v f = tt
normal_there K.Downlinks v f = rw f.0

-- a record holds what it stores
stored-held : (k : Kind) (o : Option (Value k)) → IfHeld (There k) o → held_in k (stored k o) ≡ o
stored-held K.Type3 o t = held-option no_type3 o
stored-held K.Type4 o t = held-option no_type4 o
stored-held K.LocationDemand o t = held-option no_location_demand o
stored-held K.LocationAccept o t = held-option no_location_accept o
stored-held K.Downlinks None t = refl
stored-held K.Downlinks (Some l) t = rw t

-- ## what each slot holds

abbrev pub FullSlots : (rs : List Row) → Slots rs → Type 0
FullSlots [] ss = Unit
FullSlots (r ∷ rs) ss = IfHeld (Full r.kind) (held_in r.kind ss.0) × FullSlots rs ss.1

-- so it is where each array that is stored has all its entries, as the code's types say
abbrev pub FullArray : (k : Kind) → Stored k → Type 0
FullArray K.Type3 s = Unit
FullArray K.Type4 s = Unit
FullArray K.LocationDemand s = length s.value.group_identity_uplink.groups ≡ entries_most
FullArray K.LocationAccept s = length s.value.group_identity_downlink.groups ≡ entries_most
FullArray K.Downlinks s = length s.groups ≡ entries_most

abbrev pub FullArrays : (rs : List Row) → Slots rs → Type 0
FullArrays [] ss = Unit
FullArrays (r ∷ rs) ss = FullArray r.kind ss.0 × FullArrays rs ss.1

if_held : {A : Type 0} (P : A → Type 0) (p : Bool) (a : A) → (p ≡ true → P a) → IfHeld P (held p a)
if_held P true a h = h refl
if_held P false a h = tt

full_slot : (k : Kind) (s : Stored k) → FullArray k s → IfHeld (Full k) (held_in k s)
full_slot K.Type3 s f = if_held (Full K.Type3) s.present s.value (λ e. tt)
full_slot K.Type4 s f = if_held (Full K.Type4) s.present s.value (λ e. tt)
full_slot K.LocationDemand s f = if_held (Full K.LocationDemand) s.present s.value (λ e. f)
full_slot K.LocationAccept s f = if_held (Full K.LocationAccept) s.present s.value (λ e. f)
full_slot K.Downlinks s f = if_held (Full K.Downlinks) s.present s (λ e. (e, f))

pub full_slots : (rs : List Row) (ss : Slots rs) → FullArrays rs ss → FullSlots rs ss
full_slots [] ss f = tt
full_slots (r ∷ rs) ss f = (full_slot r.kind ss.0 f.0, full_slots rs ss.1 f.1)

-- read back
pub slots-back : (rs : List Row) (ss : Slots rs) → FullSlots rs ss → Readable (slots_asked rs ss) → SlotsBack content content_bits element_normal rs (elements_of rs ss)
unfolding slots_asked
slots-back [] ss full y = tt
slots-back (r ∷ rs) ss full y =
    let first = λ (q : Question) (a : of_reading q ≡ true). (both (option_all (λ v. kind_asked r.kind v q) (held_in r.kind ss.0)) _ (y q a)).0 in (
      slot-back r.identifier r.kind (held_in r.kind ss.0) full.0 (first fits refl) (first attached refl) (first formed refl) (first short refl),
      slots-back rs ss.1 full.1 (λ q a. (both (option_all (λ v. kind_asked r.kind v q) (held_in r.kind ss.0)) _ (y q a)).1),
    )

-- the slots that are read back are the normal form
slot-normal : (r : Row) (o : Option (Value r.kind)) → stored_in r.kind (normal_slot element_normal r (option_map (of_kind r.kind) o)) ≡ stored r.kind (option_map (kind_normal r.kind) o)
unfolding element_normal
slot-normal r None = rw (value-none r.kind)
slot-normal r (Some v) = rw (value-of r.kind v) (rw (value-of r.kind (kind_normal r.kind v)))

pub slots-normal : (rs : List Row) (ss : Slots rs) → slots_in rs (normal_slots element_normal rs (elements_of rs ss)) ≡ slots_normal rs ss
unfolding normal_slots slots_normal
slots-normal [] ss = refl
slots-normal (r ∷ rs) ss = λ i. (slot-normal r (held_in r.kind ss.0) i, slots-normal rs ss.1 i)

-- ## what is read

-- an element that a content gave is of its kind, is its own normal form and has full arrays
record OfKind (k : Kind) (e : Element) : Type 0 where
  value : Value k
  is : of_kind k value ≡ e
  own : kind_normal k value ≡ value
  full : Full k value

content-of_kind : (r : Row) (n : ℕ) (bs : Bits) (e : Element) (rest : Bits) → content r n bs ≡ got e rest → OfKind r.kind e
unfolding content
content-of_kind r n bs e rest q =
    split-then (kind_content r.kind n bs) _ q (λ v m p t. record { value = v; is = cc; own = kind-own r.kind n bs p; full = kind-full r.kind n bs p })

-- such slots are their own normal form, and have full arrays
pub record OwnSlots (rs : List Row) (ss : Slots rs) : Type 0 where
  pub own : slots_normal rs ss ≡ ss
  pub full : FullSlots rs ss

own_slot : (k : Kind) (o : Option (Value k)) → IfHeld (There k) o → option_map (kind_normal k) o ≡ o
    → stored k (option_map (kind_normal k) (held_in k (stored k o))) ≡ stored k o
own_slot k o t e = rw (stored-held k o t, e)

all_own : {rs : List Row} {es : List (Option Element)} → AllSlots (λ r e. OfKind r.kind e) rs es → OwnSlots rs (slots_in rs es)
unfolding slots_normal
all_own slots_end = record { own = refl; full = tt }
all_own (one-slot {s = r} {v = None} h os) =
    let others = all_own os in
    rw (value-none r.kind) (record { own = λ i. (own_slot r.kind None tt refl i, others.own i); full = (rw (stored-held r.kind None tt) tt, others.full) })
all_own (one-slot {s = r} {v = Some e} h os) =
    let others = all_own os in
    let there = full_there r.kind h.value h.full in
    rw (← h.is, value-of r.kind h.value) (record {
      own = λ i. (own_slot r.kind (Some h.value) there (ap Some h.own) i, others.own i);
      full = (rw (stored-held r.kind (Some h.value) there) h.full, others.full);
    })

pub scan_own : (b : Bool) (rs : List Row) (bs : Bits) {x : Counted (List (Option Element))} {rest : Bits} → scan_table identifier_of content b rs bs ≡ got x rest
    → OwnSlots rs (slots_in rs x.value)
scan_own b rs bs e = all_own (scan-all identifier_of content content-of_kind _ b rs bs e)

-- where nothing is read
pub nothing_own : (rs : List Row) → OwnSlots rs (slots_in rs (map (λ r. None) rs))
unfolding slots_normal
nothing_own [] = record { own = refl; full = tt }
nothing_own (r ∷ rs) =
    let others = nothing_own rs in
    rw (value-none r.kind) (record { own = λ i. (own_slot r.kind None tt refl i, others.own i); full = (rw (stored-held r.kind None tt) tt, others.full) })

-- ## what is the same

pub slots-same : (rs : List Row) (ss us : Slots rs) → SameSlots rs ss us → slots_normal rs ss ≡ slots_normal rs us
unfolding slots_normal
slots-same [] ss us e = refl
slots-same (r ∷ rs) ss us e =
    λ i. (stored r.kind (held-same (kind_normal r.kind) (kind-same r.kind) (held_in r.kind ss.0) (held_in r.kind us.0) e.0 i), slots-same rs ss.1 us.1 e.1 i)

slot_normal-same : (k : Kind) (o : Option (Value k)) → IfHeld (Full k) o → option_all (λ v. kind_asked k v fits) o ≡ true
    → SameHeld (SameValue k) o (held_in k (stored k (option_map (kind_normal k) o)))
slot_normal-same k None full y = rw (stored-held k None tt) tt
slot_normal-same k (Some v) full y = rw (stored-held k (Some (kind_normal k v)) (normal_there k v full)) (kind_normal-same k v y full)

pub slots_normal-same : (rs : List Row) (ss : Slots rs) → FullSlots rs ss → slots_asked rs ss fits ≡ true → SameSlots rs ss (slots_normal rs ss)
unfolding slots_asked slots_normal
slots_normal-same [] ss full y = tt
slots_normal-same (r ∷ rs) ss full y =
    let yes = both (option_all (λ v. kind_asked r.kind v fits) (held_in r.kind ss.0)) _ y in
    (slot_normal-same r.kind (held_in r.kind ss.0) full.0 yes.0, slots_normal-same rs ss.1 full.1 yes.1)
