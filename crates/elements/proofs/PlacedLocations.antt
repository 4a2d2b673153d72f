-- A list inside a structure, a structure of a declared length, and the slots of a message's table, read at a cursor: for any kind of
-- group, any front of a structure and any kind of content.
use Rattle.std.specs.Prelude.{ℕ, ◌-◌, ◌≤◌, ◌≡◌, refl, Bool, List, [], length, eqb}
use Rattle.std.proofs.Common.{sym, ap, ◌∙◌}
use Rattle.std.proofs.Math.Bool.{true, false}
use Rattle.std.specs.Prelude.{Option, None, Some}
use Rattle.bits.specs.PduParseError.{inconsistent_length}
use Rattle.bits.specs.Bits.{Bits}
use Rattle.bits.specs.Reader.{Answer, got, refused, Reader, then, ◌>>=◌, field, exactly, Local, Tail}
use Rattle.bits.specs.ReaderLaws.{then-then, then_same, local·rules, local_tail, field-local, bind_tail}
use Rattle.bits.specs.Placed.{window, Placed, placed, halted, at, place}
use Rattle.bits.specs.PlacedLaws.{Gives, told, step, stop, done}
use Rattle.bits.specs.PlacedTimes.{alike, exact, inexact, exact-stop}
use Rattle.bits.specs.declared.bitbuffer.Cursor.{Cursor}
use Rattle.elements.specs.Numbers.{flag_width, value_or}
use Rattle.elements.specs.Table.{look, Header, header, counted, closing, slot, scan}
use Rattle.elements.proofs.TableLaws.{two_slots, closing-local, slot_tail}
use Rattle.elements.specs.Lists.{Groups, list, list_of, downlinks}
use Rattle.elements.proofs.ListsLaws.{Sound, list-local}
use Rattle.elements.specs.Locations.{nested_if, nested}
use Rattle.elements.proofs.LocationsLaws.{nested-local}
use Rattle.elements.specs.Kinds.{row, of_kind, identifier_of, content, stored_in}
use Rattle.elements.specs.declared.typed_pdu_fields.Kind.TheVariants as K
use Rattle.elements.specs.Rows.{closing_if}
use Rattle.elements.specs.Fronts.{slot_front}
use Rattle.elements.specs.GroupAnswers.{nested_slot, nested_slot_if, downlinks_slot, Structures, structure_slot}
use Rattle.elements.specs.TraitLaws.{Shaped}
use Rattle.elements.proofs.PlacedOptional.{known}
use Rattle.elements.proofs.PlacedTable.{front-there}
use Rattle.elements.specs.declared.group_identity_downlink.OptionalDownlinks.{OptionalDownlinks}
use Rattle.bits.specs.declared.pdu_parse_error.PduParseErr.{PduParseErr}

-- ## a list inside a structure

-- behind an O-bit of 1: the list's slot, and the closing M-bit
nested_slot_lem : {G L : Type 0} (k : Groups G L) (i : ℕ) (bs : Bits) → nested_if k i true bs ≡ (nested_slot k i >>= λ l. closing >>= λ z. got l) bs
unfolding scan nested_slot
nested_slot_lem {G} {L} k i bs =
    let x : Answer (Option L) = slot (λ i. i) (λ i. list k) i bs in
    then-then x _ _
    ∙ then_same x (λ o rest. then-then ((closing >>= λ z. got (counted 0 [])) rest) _ _ ∙ then-then (closing rest) _ _)
    ∙ sym (then-then x _ _)

-- and by the O-bit
nested-behind : {G L : Type 0} (k : Groups G L) (i : ℕ) (b : Bool) (bs : Bits) → nested_if k i b bs ≡ (nested_slot_if k i b >>= λ l. closing_if b >>= λ z. got l) bs
nested-behind k i true bs = nested_slot_lem k i bs
nested-behind k i false bs = refl

closing_if_tail : (b : Bool) → Tail (closing_if b)
closing_if_tail true = local_tail closing-local
closing_if_tail false = search local·rules

module _ {G L : Type 0} (k : Groups G L) (s : Local k.group) (i : ℕ) where
  nested_slot_tail : (b : Bool) → Tail (nested_slot_if k i b)
  unfolding nested_slot
  nested_slot_tail true = bind_tail (slot (λ i. i) (λ i. list k) i) _ (slot_tail (λ i. i) (λ i. list k) (λ j n. list-local k s n) i) (λ o. search local·rules)
  nested_slot_tail false = search local·rules

  module _ {os : List ℕ} {c : Cursor} where
    pub list_unannounced : {n : PduParseErr} → Gives (field flag_width) os c (halted n) → Gives (nested k i) os c (halted n)
    unfolding nested
    list_unannounced e = stop _ e

    module _ {c₁ : Cursor} {o : ℕ} (e₁ : Gives (field flag_width) os c (placed o c₁)) where
      behind_obit_lem : {x : Placed L} → Gives (nested_slot_if k i (eqb o 1) >>= λ l. closing_if (eqb o 1) >>= λ z. got l) os c₁ x → Gives (nested k i) os c x
      unfolding nested
      behind_obit_lem g = step _ e₁ (local_tail (field-local flag_width)) (alike _ (nested-behind k i (eqb o 1) (window os c₁)) g)

      pub list-refused : {n : PduParseErr} → Gives (nested_slot_if k i (eqb o 1)) os c₁ (halted n) → Gives (nested k i) os c (halted n)
      list-refused e = behind_obit_lem (stop _ e)

      module _ {l : L} {c₂ : Cursor} (e₂ : Gives (nested_slot_if k i (eqb o 1)) os c₁ (placed l c₂)) where
        pub list_unclosed : {n : PduParseErr} → Gives (closing_if (eqb o 1)) os c₂ (halted n) → Gives (nested k i) os c (halted n)
        list_unclosed e = behind_obit_lem (step _ e₂ (nested_slot_tail (eqb o 1)) (stop _ e))

        pub list-closed : {c₃ : Cursor} → Gives (closing_if (eqb o 1)) os c₂ (placed tt c₃) → Gives (nested k i) os c (placed l c₃)
        list-closed e = behind_obit_lem (step _ e₂ (nested_slot_tail (eqb o 1)) (step _ e (closing_if_tail (eqb o 1)) done))

-- ## a structure of n bits: behind its front, at c₂, the list

module _ {G L D : Type 0} {k : Groups G L} (s : Sound k) (i : ℕ) (of : L → D) {body : Reader D} (tail : Tail body) {os : List ℕ} {c c₂ : Cursor}
    (front : (x : Placed D) → Gives (nested k i >>= λ l. got (of l)) os c₂ x → Gives body os c x) (n : ℕ) where
  pub structure-refused : {m : PduParseErr} → Gives (nested k i) os c₂ (halted m) → Gives (exactly n body) os c (halted m)
  structure-refused e = exact-stop n (front _ (stop _ e))

  module _ {l : L} {c₃ : Cursor} (e : Gives (nested k i) os c₂ (placed l c₃)) where
    structure-there : Gives body os c (placed (of l) c₃)
    structure-there = front _ (step _ e (local_tail (nested-local s i)) done)

    -- it ends behind where it begins
    pub structure-on : c.at ≤ c₃.at
    structure-on = (told tail structure-there).on

    pub structure-whole : c₃.at - c.at ≡ n → Gives (exactly n body) os c (placed (of l) c₃)
    structure-whole q = exact n structure-there tail q

    pub structure-inexact : (c₃.at - c.at ≡ n → ⊥) → Gives (exactly n body) os c (halted inconsistent_length)
    structure-inexact q = inexact n structure-there tail q

-- ## a list's slot is the same in a message's table and inside a structure

pub downlinks_slot_lem : (i : ℕ) → downlinks_slot i ≡ nested_slot downlinks i
unfolding downlinks_slot nested_slot content
downlinks_slot_lem i = λ j bs.
    two_slots identifier_of content (row i K.Downlinks) (λ i. i) (λ i. list downlinks) i refl
    (λ r q. then (r bs) (λ o. got (stored_in K.Downlinks o)) ≡ then (q bs) (λ o. got (value_or (list_of downlinks None) o)))
    refl refl (look bs) (λ l. with_header (header bs)) j
  where
    there : (y : Answer OptionalDownlinks)
        → then (then (then y (λ l. got (of_kind K.Downlinks l))) (λ e. got (Some e))) (λ o. got (stored_in K.Downlinks o))
        ≡ then (then y (λ l. got (Some l))) (λ o. got (value_or (list_of downlinks None) o))
    there (got l rest) = refl
    there (refused n) = refl

    with_header : (y : Answer Header)
        → then (then (then y (λ h. list downlinks h.size >>= λ l. got (of_kind K.Downlinks l))) (λ e. got (Some e))) (λ o. got (stored_in K.Downlinks o))
        ≡ then (then (then y (λ h. list downlinks h.size)) (λ l. got (Some l))) (λ o. got (value_or (list_of downlinks None) o))
    with_header (got h rest) = there (list downlinks h.size rest)
    with_header (refused n) = refl

-- ## a slot of a message's table that holds a structure

-- what was read, made into another value
mapped : {A B : Type 0} → (A → B) → Placed A → Placed B
mapped f (placed a k) = placed (f a) k
mapped f (halted n) = halted n

pub read-made : {A B : Type 0} (f : A → B) {r : Reader A} {os : List ℕ} {c : Cursor} {a : A} {k : Cursor} → Gives r os c (placed a k) → Gives (r >>= λ a. got (f a)) os c (placed (f a) k)
unfolding at mapped
read-made f {r} {os} {c} e = record { eq = go (r (window os c)) ∙ ap (mapped f) e.eq }
  where
    go : (x : Answer _) → place c (length (window os c)) (then x (λ a. got (f a))) ≡ mapped f (place c (length (window os c)) x)
    go (got a rest) = refl
    go (refused n) = refl

module _ {D O : Type 0} (k : Structures D O) (s : Shaped k) (i : ℕ) {os : List ℕ} {c : Cursor} {n : ℕ} {c₁ : Cursor} (e : Gives (slot_front i) os c (placed (Some n) c₁)) where
  row-there : {x : Placed O} → Gives (k.content n >>= λ d. got (k.out (Some (k.is d)))) os c₁ x → Gives (structure_slot k i) os c x
  unfolding structure_slot
  row-there g =
      front-there identifier_of content (row i k.kind) _ e
      (alike (k.content n >>= λ d. got (k.out (Some (k.is d)))) (rw (s.content i) (then-then (k.content n (window os c₁)) _ _)) g)

  pub row-refused : {m : PduParseErr} → Gives (k.content n) os c₁ (halted m) → Gives (structure_slot k i) os c (halted m)
  row-refused g = row-there (stop _ g)

  pub row_read : {d : D} {c₂ : Cursor} → Gives (k.content n) os c₁ (placed d c₂) → Gives (structure_slot k i) os c (placed (k.make true d) c₂)
  row_read {d} g = known (row-there (read-made (λ d. k.out (Some (k.is d))) g)) (s.held d)
