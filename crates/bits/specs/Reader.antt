-- Readers of bits: what they answer, how they are put together, and what it is for a reader to be local.
use Rattle.std.specs.Prelude.{ℕ, zero, suc, ◌+◌, ◌≡◌, Bool, true, false, cond, List, [], ◌∷◌, ◌++◌, length, take, drop, leb, eqb}
use Rattle.bits.specs.PduParseError.{buffer_ended, inconsistent_length}
use Rattle.bits.specs.Bits.{Bits, number}
use Rattle.bits.specs.declared.pdu_parse_error.PduParseErr.{PduParseErr}

-- a value and the bits that are left, or a refusal
pub data Answer (A : Type 0) : Type 0 where
  got : A → Bits → Answer A
  refused : PduParseErr → Answer A

abbrev pub Reader : Type 0 → Type 0
Reader A = Bits → Answer A

module _ {A B : Type 0} where
  abbrev pub then : Answer A → (A → Reader B) → Answer B
  then (got a rest) f = f a rest
  then (refused n) f = refused n

  -- one reader and then the next; a refusal ends both
  infixl 20 ◌>>=◌
  abbrev pub ◌>>=◌ : Reader A → (A → Reader B) → Reader B
  ◌>>=◌ r f bs = then (r bs) f

-- A FIELD: the number that the next w bits write, where there are so many
unfoldable pub field : ℕ → Reader ℕ
field w bs = cond (leb w (length bs)) (got (number (take w bs)) (drop w bs)) (refused buffer_ended)

-- a field of at most n bits
unfoldable pub word : ℕ → ℕ → Reader ℕ
word n w bs = cond (leb w n) (field w bs) (refused buffer_ended)

-- w bits that are passed, whatever they hold
unfoldable pub pass : ℕ → Reader Unit
pass w = field w >>= λ v. got tt

-- refused with n unless the test holds
abbrev pub unless : Bool → PduParseErr → Reader Unit
unless true n bs = got tt bs
unless false n bs = refused n

-- a reader that runs where the test holds
abbrev pub optional : {A B : Type 0} → (A → B) → B → Bool → Reader A → Reader B
optional present absent true r bs = then (r bs) (λ a. got (present a))
optional present absent false r bs = got absent bs

-- a reader that has to use n bits: it sees all that is left, and its own refusal comes first
abbrev pub exactly : {A : Type 0} → ℕ → Reader A → Reader A
exactly n r bs = then (r bs) (λ a rest. then (unless (eqb (length bs) (n + length rest)) inconsistent_length rest) (λ z. got a))

-- a reader run k times
unfoldable pub times : {A : Type 0} → ℕ → Reader A → Reader (List A)
times zero r bs = got [] bs
times (suc k) r bs = then (r bs) (λ a rest. then (times k r rest) (λ xs. got (a ∷ xs)))

-- what a reader used of bs for the value a: whatever follows those bits, it gives the same value and leaves the rest
pub record Used {A : Type 0} (r : Reader A) (bs : Bits) (a : A) (rest : Bits) : Type 0 where
  pub used : Bits
  pub split : bs ≡ used ++ rest
  pub any : (zs : Bits) → r (used ++ zs) ≡ got a zs

-- LOCAL: what the reader gives depends on the bits that it used and on no others
pub record Local {A : Type 0} (r : Reader A) : Type 0 where
  pub at : (bs : Bits) (a : A) (rest : Bits) → r bs ≡ got a rest → Used r bs a rest

-- TAIL: what the reader leaves is an end of the bits (it may have looked further)
pub record Tail {A : Type 0} (r : Reader A) : Type 0 where
  pub at : (bs : Bits) (a : A) (rest : Bits) → r bs ≡ got a rest → (used : Bits) × (bs ≡ used ++ rest)
