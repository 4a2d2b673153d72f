-- The rows of a part of a table.
use Rattle.std.specs.Prelude.{slice_index_or}
use native.Mathlib.Numerals.{add-one}
use lib.Seq.{drop-cons}
use Rattle.std.proofs.Math.ListN.{drop_of_length-le}
use Rattle.std.specs.Prelude.{ℕ, ◌+◌, ◌-◌, ◌≤◌, ◌<◌, ◌≡◌, refl, min, ◌||◌, nat_eq, List, [], ◌∷◌, length, drop}
use Rattle.std.specs.List.{list_any}
use Rattle.std.proofs.Common.{arith, ap, length-take}
use Rattle.elements.specs.Table.{is_listed}
use Rattle.elements.specs.Kinds.{identifier_of}
use Rattle.elements.specs.Rows.{slots_from}
use Rattle.elements.specs.declared.typed_pdu_fields.Kind.TheVariants as K
use Rattle.elements.specs.declared.typed_pdu_fields.Row.{Row}

-- no more of them than there are places from the first one's on
pub slots-few : (t : List Row) (from to : ℕ) → length (slots_from t from to) ≤ 8 - from
slots-few t from to = omega (arith, length-take (min to 8 - from) (drop from t))

-- whether one of them has an identifier, row by row
pub listed-any : (t : List Row) (x : ℕ) → list_any (λ (r : Row). nat_eq x r.identifier) t ≡ is_listed identifier_of t x
unfolding is_listed
listed-any [] x = refl
listed-any (r ∷ t) x = ap (λ b. nat_eq x r.identifier || b) (listed-any t x)

-- ## one row at a turn

abbrev pub no_row : Row
no_row = record { identifier = 0; kind = K.Type3 }

pub next-row : (t : List Row) (i : ℕ) → i < length t → drop i t ≡ slice_index_or t i no_row ∷ drop (i + 1) t
next-row t i h = rw (add-one i) (drop-cons t i no_row h)

pub no-more_rows : (t : List Row) (i : ℕ) → length t ≤ i → drop i t ≡ []
no-more_rows t i h = drop_of_length-le t h
