-- The array of a list that was read has its 63 places.
use Prim.Native.Nat.{ℕ, zero, suc, ◌-◌, ◌≤◌}
use Rattle.std.proofs.Common.{arith, length-append}
use Rattle.std.specs.Prelude.{◌≡◌, Bool, true, false, length, get_or, replicate, eqb, leb}
use Rattle.std.proofs.Math.Path.{refl, ap}
use Rattle.std.proofs.lemmas.List.{length-replicate}
use Rattle.std.specs.Prelude.{Option, None, Some}
use mathlib.Core.List.{List, [], ◌∷◌}
use Rattle.bits.specs.PduParseError.{type4_underflow}
use Rattle.bits.specs.Bits.{Bits}
use Rattle.bits.specs.Reader.{got, field, unless, times}
use Rattle.bits.specs.ReaderLaws.{split-then, exactly-got, field_lt}
use Rattle.elements.specs.Numbers.{value_or, flag_width}
use Rattle.elements.specs.Generics.{entries_width}
use Rattle.elements.specs.Table.{scan_table}
use Rattle.elements.proofs.TableLaws.{AllSlots, slots_end, one-slot, scan-all}
use Rattle.elements.specs.Lists.{entries_most, Groups, padded, list_as, list_of, groups_read, list, uplinks, downlinks}
use Rattle.elements.proofs.ListsLaws.{Sound, uplinks_sound, downlinks_sound}
use Rattle.elements.specs.Locations.{nested_if, nested, group_identity_uplink_identifier, group_identity_downlink_identifier, demand_reserved}
use Rattle.elements.specs.Locations.{demand_body, location_demand, accept_reserved, accept_body, location_accept}
use Rattle.elements.specs.Kinds.{Value, kind_content}
use Rattle.elements.proofs.KindsLaws.{Full}
use Rattle.elements.specs.declared.typed_pdu_fields.Kind.{Kind}
use Rattle.elements.specs.declared.typed_pdu_fields.Kind.TheVariants as K
use Rattle.elements.specs.declared.group_identity_location_demand.GroupIdentityLocationDemand.{GroupIdentityLocationDemand}
use Rattle.elements.specs.declared.group_identity_location_accept.GroupIdentityLocationAccept.{GroupIdentityLocationAccept}

-- ## lists

module _ {G L : Type 0} {k : Groups G L} (s : Sound k) where
  abbrev FullArray : L → Type 0
  FullArray l = length (k.groups l) ≡ entries_most

  times-length : (m : ℕ) (bs : Bits) {gs : List G} {rest : Bits} → times m k.group bs ≡ got gs rest → length gs ≡ m
  unfolding times
  times-length zero bs {gs} e = let end : [] ≡ gs = cc in rw (← end) refl
  times-length (suc m) bs {gs} e =
      split-then (k.group bs) _ e (λ g b₁ p₁ q₁.
      split-then (times m k.group b₁) _ q₁ (λ hs b₂ p₂ q₂.
      let made : g ∷ hs ≡ gs = cc in
      rw (← made) (ap suc (times-length m b₁ p₂))))

  as-full : (p : Bool) (gs : List G) → length gs ≤ entries_most → FullArray (list_as k p gs)
  as-full p gs few =
      rw (s.groups p (length gs) (padded k gs))
      (omega (arith, length-append gs (replicate (entries_most - length gs) k.zero), length-replicate (entries_most - length gs) k.zero))

  absent-full : FullArray (list_of k None)
  absent-full = as-full false [] (omega arith)

  -- and it is there
  list-full : (n : ℕ) (bs : Bits) {l : L} {rest : Bits} → list k n bs ≡ got l rest → (k.present l ≡ true) × FullArray l
  unfolding list
  list-full n bs {l} e =
      split-then (field entries_width bs) _ e (λ m b₁ p₁ q₁.
      split-then (unless (leb entries_width n) type4_underflow b₁) _ q₁ (λ z b₂ p₂ q₂.
      split-then (times m k.group b₂) _ (exactly-got _ (groups_read k m) b₂ q₂).inner (λ gs b₃ p₃ q₃.
      let made : list_of k (Some gs) ≡ l = cc in
      rw (← made) (s.present true (length gs) (padded k gs), as-full true gs (omega (arith, field_lt entries_width bs p₁, times-length m b₂ p₃))))))

  nested-full : (i : ℕ) (bs : Bits) {l : L} {rest : Bits} → nested k i bs ≡ got l rest → FullArray l
  unfolding nested
  nested-full i bs {l} {rest} e = split-then (field flag_width bs) _ e (λ o mid p q. test (eqb o 1) mid q)
    where
      only : {vs : List (Option L)} → AllSlots {S = ℕ} (λ j l. FullArray l) (i ∷ []) vs → FullArray (value_or (list_of k None) (get_or vs 0 None))
      only (one-slot {v = None} h slots_end) = absent-full
      only (one-slot {v = Some l} h slots_end) = h

      test : (b : Bool) (mid : Bits) → nested_if k i b mid ≡ got l rest → FullArray l
      test true mid q =
          split-then (scan_table (λ i. i) (λ i. list k) false (i ∷ []) mid) _ q (λ x r p' q'.
          let made : value_or (list_of k None) (get_or x.value 0 None) ≡ l = cc in
          rw (← made) (only (scan-all (λ i. i) (λ i. list k) (λ j n bs l rest e. (list-full n bs e).1) _ false (i ∷ []) mid p')))
      test false mid q = let made : list_of k None ≡ l = cc in rw (← made) absent-full

-- ## structures

location_demand-full : (n : ℕ) (bs : Bits) {d : GroupIdentityLocationDemand} {rest : Bits} → location_demand n bs ≡ got d rest
    → length d.group_identity_uplink.groups ≡ entries_most
unfolding location_demand demand_body
location_demand-full n bs {d} e =
    split-then (field flag_width bs) _ (exactly-got n demand_body bs e).inner (λ r b₁ p₁ q₁.
    split-then (demand_reserved r b₁) _ q₁ (λ z b₂ p₂ q₂.
    split-then (field flag_width b₂) _ q₂ (λ m b₃ p₃ q₃.
    split-then (nested uplinks group_identity_uplink_identifier b₃) _ q₃ (λ l b₄ p₄ q₄.
    let made : record { group_identity_attach_detach_mode = m; group_identity_uplink = l } ≡ d = cc in
    rw (← made) (nested-full uplinks_sound group_identity_uplink_identifier b₃ p₄)))))

location_accept-full : (n : ℕ) (bs : Bits) {d : GroupIdentityLocationAccept} {rest : Bits} → location_accept n bs ≡ got d rest
    → length d.group_identity_downlink.groups ≡ entries_most
unfolding location_accept accept_body
location_accept-full n bs {d} e =
    split-then (field flag_width bs) _ (exactly-got n accept_body bs e).inner (λ a b₁ p₁ q₁.
    split-then (accept_reserved b₁) _ q₁ (λ z b₂ p₂ q₂.
    split-then (nested downlinks group_identity_downlink_identifier b₂) _ q₂ (λ l b₃ p₃ q₃.
    let made : record { group_identity_accept_reject = a; group_identity_downlink = l } ≡ d = cc in
    rw (← made) (nested-full downlinks_sound group_identity_downlink_identifier b₂ p₃))))

-- ## elements

-- WHAT A CONTENT HOLDS has full arrays
pub kind-full : (k : Kind) (n : ℕ) (bs : Bits) {v : Value k} {rest : Bits} → kind_content k n bs ≡ got v rest → Full k v
kind-full K.Type3 n bs e = tt
kind-full K.Type4 n bs e = tt
kind-full K.LocationDemand n bs e = location_demand-full n bs e
kind-full K.LocationAccept n bs e = location_accept-full n bs e
kind-full K.Downlinks n bs e = list-full downlinks_sound n bs e
