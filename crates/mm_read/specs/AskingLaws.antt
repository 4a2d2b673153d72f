-- What a line asks for, step by step.
use Rattle.std.specs.Prelude.{◌≡◌, ℕ, ◌≤◌, true, false, List, [], ◌∷◌, length, ◌==◌, ◌≢◌, slice_index, refl}
use Rattle.std.proofs.Common.{sym, ap, ◌∙◌, arith, eq-eqb, ne_eqb}
use Rattle.mm_read.specs.Words.{first_word, after_word, no_word}
use Rattle.mm_read.specs.WordsLaws.{first_word_within, after_word_within}
use Rattle.mm_read.specs.Asking.{passed_over, octets_word}

pub passed-empty : (w : List ℕ) → length w ≡ 0 → passed_over w ≡ true
passed-empty [] e = refl
passed-empty (x ∷ xs) e = absurd (omega arith)

pub passed_else : (w : List ℕ) → (length w ≢ 0) → passed_over w ≡ (slice_index w 0 == 35)
passed_else [] e = absurd (e refl)
passed_else (x ∷ xs) e = refl

-- whether a first word is there, by its length
pub none_left : (w s : List ℕ) → w ≡ first_word s → length w ≡ 0 → no_word s ≡ true
none_left w s e h = eq-eqb _ _ (ap length (sym e) ∙ h)

pub some_left : (w s : List ℕ) → w ≡ first_word s → (length w ≢ 0) → no_word s ≡ false
some_left w s e h = ne_eqb _ _ (λ n. h (ap length e ∙ n))

-- the word that has the octets is no longer than the line
pub octets_word_within : (s : List ℕ) → length (octets_word s) ≤ length s
octets_word_within s =
    omega (
      arith,
      first_word_within (after_word (after_word s)),
      after_word_within (after_word s),
      after_word_within s,
    )
