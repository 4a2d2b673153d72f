-- Four bits, one after the other, are one field of four.
use Rattle.std.specs.Prelude.{ℕ, ◌/◌, ◌%◌, ◌≡◌, List, [], ◌∷◌, get_or}
use Rattle.std.proofs.Common.{div-one, sym, ◌∙◌}
use Rattle.bits.specs.Bits.{Bits}
use Rattle.bits.specs.Reader.{got, ◌>>=◌, field}
use Rattle.bits.specs.ReaderLaws.{then_same}
use Rattle.elements.specs.Numbers.{flag_width}
use Rattle.elements.specs.ClassOfMs.{numbers, sum, split}
use Rattle.elements.proofs.ClassOfMsLaws.{numbers_as, numbers-first}

module _ {H : Type 0} (f : ℕ → ℕ → ℕ → ℕ → H) where
  abbrev of_flags : List ℕ → H
  of_flags vs = f (get_or vs 0 0) (get_or vs 1 0) (get_or vs 2 0) (get_or vs 3 0)

  flags-numbers : (bs : Bits) → (numbers (1 ∷ 1 ∷ 1 ∷ 1 ∷ []) >>= λ vs. got (of_flags vs)) bs
      ≡ (field flag_width >>= λ r. field flag_width >>= λ a. field flag_width >>= λ m. field flag_width >>= λ o. got (f r a m o)) bs
  unfolding numbers
  flags-numbers bs =
      numbers-first 1 (1 ∷ 1 ∷ 1 ∷ []) (λ vs. got (of_flags vs)) bs
      ∙ then_same (field 1 bs) (λ r cs. numbers-first 1 (1 ∷ 1 ∷ []) (λ vs. got (of_flags (r ∷ vs))) cs
      ∙ then_same (field 1 cs) (λ a ds. numbers-first 1 (1 ∷ []) (λ vs. got (of_flags (r ∷ a ∷ vs))) ds
      ∙ then_same (field 1 ds) (λ m es. numbers-first 1 [] (λ vs. got (of_flags (r ∷ a ∷ m ∷ vs))) es)))

  pub flags-word : (bs : Bits)
      → (field flag_width >>= λ r. field flag_width >>= λ a. field flag_width >>= λ m. field flag_width >>= λ o. got (f r a m o)) bs
      ≡ (field 4 >>= λ v. got (f (v / 8 % 2) (v / 4 % 2) (v / 2 % 2) (v % 2))) bs
  unfolding sum split
  flags-word bs =
      sym (flags-numbers bs) ∙ numbers_as (1 ∷ 1 ∷ 1 ∷ 1 ∷ []) of_flags bs ∙ then_same (field 4 bs) (λ v rest. rw (div-one v))
