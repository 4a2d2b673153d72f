-- Type 3 and type 4 elements (EN 300 392-2, annex E): M-bit 1, identifier, length, content. How a table of listed identifiers is
-- read, strictly and skipping; the walk over whole elements, and the cut (document 01, 'Elements', 'Walk and
-- cut').
use Rattle.std.specs.Prelude.{ℕ, zero, suc, ◌+◌, ◌-◌, Bool, true, false, cond, ◌||◌, List, [], ◌∷◌, ◌++◌, length, take, eqb}
use Rattle.std.specs.Prelude.{Option, None, Some}
use Rattle.bits.specs.PduParseError.{buffer_ended, invalid_trailing_mbit_value}
use Rattle.bits.specs.Bits.{Bits}
use Rattle.bits.specs.Reader.{Answer, got, refused, Reader, then, ◌>>=◌, field, pass, unless}

-- ## one element

abbrev pub mbit_width : ℕ
mbit_width = 1

abbrev pub identifier_width : ℕ
identifier_width = 4

abbrev pub length_width : ℕ
length_width = 11

-- what the M-bit and the identifier say, before anything is used up
pub data Look : Type 0 where
  -- the M-bit, or the identifier behind an M-bit of 1, is not inside the window
  outside : Look
  -- M-bit 0
  ends : Look
  -- M-bit 1 and an identifier
  opens : ℕ → Look

abbrev pub seen : Answer ℕ → Look
seen (got i rest) = opens i
seen (refused n) = outside

abbrev pub looked : Answer ℕ → Look
looked (got m rest) = cond (eqb m 0) ends (seen (field identifier_width rest))
looked (refused n) = outside

unfoldable pub look : Bits → Look
look bs = looked (field mbit_width bs)

pub record Header : Type 0 where
  pub identifier : ℕ
  pub size : ℕ

-- M-bit, identifier and length of an element that the look has seen
unfoldable pub header : Reader Header
header = field mbit_width >>= λ m. field identifier_width >>= λ i. field length_width >>= λ n. got (record { identifier = i; size = n })

-- the closing M-bit
unfoldable pub closing : Reader Unit
closing = field mbit_width >>= λ m. unless (eqb m 0) invalid_trailing_mbit_value

-- ## whole elements, one after the other

-- what of bs was used, where rest is left
abbrev pub used_of : Bits → Bits → Bits
used_of bs rest = take (length bs - length rest) bs

-- an element passed, whatever it holds: its identifier
unfoldable pub whole : Reader ℕ
whole = header >>= λ h. pass h.size >>= λ z. got h.identifier

-- the same with its bits, 16 + length of them
pub record Piece : Type 0 where
  pub identifier : ℕ
  pub bits : Bits

unfoldable pub piece : Reader Piece
piece bs = then (whole bs) (λ i rest. got (record { identifier = i; bits = used_of bs rest }) rest)

abbrev pub next_if : Bool → Reader (Option Piece)
next_if true bs = got None bs
next_if false bs = then (piece bs) (λ p. got (Some p))

abbrev pub next_at_lem : (ℕ → Bool) → Look → Reader (Option Piece)
next_at_lem stop outside bs = refused buffer_ended
next_at_lem stop ends bs = got None bs
next_at_lem stop (opens i) bs = next_if (stop i) bs

-- the next element; none before an M-bit of 0 or an identifier at which `stop` holds
abbrev pub next : (ℕ → Bool) → Reader (Option Piece)
next stop bs = next_at_lem stop (look bs) bs

module _ {A : Type 0} where
  abbrev pub onward : Answer (Option A) → Reader (List A) → Answer (List A)
  onward (got None rest) more = got [] rest
  onward (got (Some a) rest) more = then (more rest) (λ xs. got (a ∷ xs))
  onward (refused n) more = refused n

  -- r again and again until it gives none, at most n times
  unfoldable pub many_of : ℕ → Reader (Option A) → Reader (List A)
  many_of zero r bs = refused buffer_ended
  many_of (suc n) r bs = onward (r bs) (many_of n r)

  -- r again and again until it gives none; each turn uses a bit at least
  unfoldable pub many : Reader (Option A) → Reader (List A)
  unfolding many_of
  many r bs = many_of (suc (length bs)) r bs

unfoldable pub pieces : (ℕ → Bool) → Reader (List Piece)
pieces stop = many (next stop)

-- THE WALK over the elements: all of them, up to an M-bit of 0
abbrev pub walk : Reader (List Piece)
walk = pieces (λ i. false)

module _ (listed : ℕ → Bool) where
  -- the elements whose identifier is not listed
  unfoldable pub unlisted : List Piece → List Piece
  unlisted [] = []
  unlisted (p ∷ ps) = cond (listed p.identifier) (unlisted ps) (p ∷ unlisted ps)

  -- THE CUT: the bits of the listed elements, in order, and then the rest
  unfoldable pub cut : List Piece → Bits → Bits
  cut [] rest = rest
  cut (p ∷ ps) rest = cond (listed p.identifier) (p.bits ++ cut ps rest) (cut ps rest)

-- the bits of some elements together
unfoldable pub total : List Piece → ℕ
total [] = 0
total (p ∷ ps) = length p.bits + total ps

-- ## a table of listed identifiers, read strictly or skipping

-- how many unlisted elements were skipped, and what was read
pub record Counted (A : Type 0) : Type 0 where
  pub skipped : ℕ
  pub value : A

abbrev pub counted : {A : Type 0} → ℕ → A → Counted A
counted n a = record { skipped = n; value = a }

-- the unlisted elements that stand here: how many the skipping reading passes; the strict one passes none
abbrev pub skip : (ℕ → Bool) → Bool → Reader ℕ
skip listed true bs = then (pieces listed bs) (λ ps. got (length ps))
skip listed false bs = got 0 bs

module _ {S : Type 0} (identifier : S → ℕ) where
  -- whether a table has the identifier
  unfoldable pub is_listed : List S → ℕ → Bool
  is_listed [] i = false
  is_listed (s ∷ ss) i = eqb i (identifier s) || is_listed ss i

module _ {S A : Type 0} (identifier : S → ℕ) (content : S → ℕ → Reader A) where
  abbrev pub element : S → Reader A
  element s = header >>= λ h. content s h.size

  abbrev pub slot_if : S → Bool → Reader (Option A)
  slot_if s true bs = then (element s bs) (λ a. got (Some a))
  slot_if s false bs = got None bs

  abbrev pub slot_at : S → Look → Reader (Option A)
  slot_at s outside bs = refused buffer_ended
  slot_at s ends bs = got None bs
  slot_at s (opens i) bs = slot_if s (eqb i (identifier s)) bs

  -- ONE SLOT: M-bit 0, or another identifier, means absent
  abbrev pub slot : S → Reader (Option A)
  slot s bs = slot_at s (look bs) bs

  module _ (listed : ℕ → Bool) where
    -- THE TWO READINGS of slots: skipping if the test holds, else strict
    unfoldable pub scan : Bool → List S → Reader (Counted (List (Option A)))
    scan skipping [] = skip listed skipping >>= λ n. closing >>= λ z. got (counted n [])
    scan skipping (s ∷ ss) = skip listed skipping >>= λ n. slot s >>= λ a. scan skipping ss >>= λ x. got (counted (n + x.skipped) (a ∷ x.value))

  -- the whole table, in order; those are listed whose identifier it has
  abbrev pub scan_table : Bool → List S → Reader (Counted (List (Option A)))
  scan_table skipping table = scan (is_listed identifier table) skipping table
