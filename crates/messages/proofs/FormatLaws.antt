-- Laws of a message over any table: what was written is read back, and what was read is its own normal form.
use Rattle.std.specs.Prelude.{ℕ, ◌≡◌, Bool, cond}
use Rattle.std.proofs.Math.Path.{refl, ap}
use Rattle.std.proofs.Common.{sym}
use Rattle.std.proofs.Math.Bool.{true, false}
use Rattle.std.specs.Prelude.{Option, None, Some}
use mathlib.Core.List.{List, [], ◌∷◌, ◌++◌, map}
use Rattle.bits.specs.Bits.{Bits}
use Rattle.bits.specs.Reader.{got, Reader}
use Rattle.bits.specs.ReaderLaws.{split-then}
use Rattle.elements.proofs.NumbersLaws.{never}
use Rattle.elements.specs.Table.{Counted, counted, is_listed, scan_table}
use Rattle.elements.specs.TableWritten.{table_bits}
use Rattle.elements.proofs.TableBack.{distinct, SlotsBack, normal_slots, table-back}
use Rattle.messages.specs.Head.{any_present}
use Rattle.messages.specs.Format.{Format, body, message}

-- what holds of a head with the slots that the table gives, and of a head alone, holds of each message that is read
pub message-made : {S A R : Type 0} (identifier : S → ℕ) (content : S → ℕ → Reader A) (f : Format S A R) (P : Counted R → Type 0) (b : Bool) (bs : Bits)
    → ((h : f.Head) (mid : Bits) → f.head bs ≡ got h mid → f.more h ≡ true → (y : Counted (List (Option A))) (rest : Bits)
    → scan_table identifier content b f.table mid ≡ got y rest → P (counted y.skipped (f.finish h y.value)))
    → ((h : f.Head) (mid : Bits) → f.head bs ≡ got h mid → f.more h ≡ false → P (counted 0 (f.finish h (map (λ s. None) f.table))))
    → {x : Counted R} {rest : Bits} → message identifier content f b bs ≡ got x rest → P x
unfolding message
message-made identifier content f P b bs table none_there {x} {rest} e = split-then (f.head bs) _ e (λ h mid p q. go h mid p (f.more h) refl q)
  where
    go : (h : f.Head) (mid : Bits) → f.head bs ≡ got h mid → (o : Bool) → f.more h ≡ o → body identifier content f b h o mid ≡ got x rest → P x
    go h mid p true o q = split-then (scan_table identifier content b f.table mid) _ q (λ y r p' q'.
        let g : counted y.skipped (f.finish h y.value) ≡ x = cc in
        rw (← g) (table h mid p o y r p'))
    go h mid p false o q = let g : counted 0 (f.finish h (map (λ s. None) f.table)) ≡ x = cc in rw (← g) (none_there h mid p o)

module _ {S A : Type 0} (identifier : S → ℕ) (content : S → ℕ → Reader A) (content_bits : S → A → Bits) (normal : S → A → A) where
  -- slots of which none is present
  absent_slots : (ss : List S) (vs : List (Option A)) → any_present vs ≡ false → map (λ s. None) ss ≡ normal_slots normal ss vs
  unfolding any_present normal_slots
  absent_slots [] vs e = refl
  absent_slots (s ∷ ss) [] e = ap (λ vs. None ∷ vs) (absent_slots ss [] e)
  absent_slots (s ∷ ss) (None ∷ vs) e = ap (λ vs. None ∷ vs) (absent_slots ss vs e)
  absent_slots (s ∷ ss) (Some a ∷ vs) e = never (sym e)

  module _ {R : Type 0} (f : Format S A R) where
    -- a message whose head is read back is read back, with or without its slots behind the O-bit
    pub format_back : distinct identifier f.table ≡ true → (vs : List (Option A)) → SlotsBack content content_bits normal f.table vs
        → (more : Bool) → (more ≡ false → any_present vs ≡ false) → (bs rest : Bits) {h : f.Head}
        → f.head bs ≡ got h (cond more (table_bits identifier content_bits f.table vs) [] ++ rest) → f.more h ≡ more
        → {r : R} → f.finish h (normal_slots normal f.table vs) ≡ r → message identifier content f false bs ≡ got (counted 0 r) rest
    unfolding message
    format_back apart vs backs more absent bs rest {h} e m made = rw e (rw (m, ← made) (go more absent))
      where
        go : (b : Bool) → (b ≡ false → any_present vs ≡ false)
            → body identifier content f false h b (cond b (table_bits identifier content_bits f.table vs) [] ++ rest)
            ≡ got (counted 0 (f.finish h (normal_slots normal f.table vs))) rest
        go true absent = rw (table-back identifier content content_bits normal (is_listed identifier f.table) f.table apart vs backs rest)
        go false absent = rw (absent_slots f.table vs (absent refl))
