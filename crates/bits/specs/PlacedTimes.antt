-- Readers at a cursor that test, that run where they are wanted, that are held to a length, or that run a number of times.
use Rattle.std.specs.Prelude.{ℕ, zero, suc, ◌+◌, ◌-◌, ◌<◌, ◌≡◌, refl, Bool, true, false, List, [], ◌∷◌, ◌++◌, length, take, drop, set, replicate}
use Rattle.std.proofs.Common.{add-one, arith, sym, ◌∙◌, append_assoc, append-nil, take-append-drop, take-suc-set, drop-set-lt, drop-drop, eq-eqb, ne_eqb}
use Rattle.std.proofs.Math.Path.{ap}
use Rattle.std.specs.Prelude.{Option, None, Some}
use Rattle.bits.specs.PduParseError.{inconsistent_length}
use Rattle.bits.specs.Bits.{Bits}
use Rattle.bits.specs.Reader.{got, Reader, ◌>>=◌, unless, optional, exactly, times, Tail}
use Rattle.bits.specs.ReaderLaws.{then-then, then_same}
use Rattle.bits.specs.Placed.{window, Placed, placed, halted, at}
use Rattle.bits.specs.PlacedLaws.{Gives, told, told-not, gives, gives-not, step, stop, done, refuse}
use Rattle.bits.specs.declared.bitbuffer.Cursor.{Cursor}
use Rattle.bits.specs.declared.pdu_parse_error.PduParseErr.{PduParseErr}

-- only what a reader does at the bits left counts
pub alike : {A : Type 0} {r : Reader A} {os : List ℕ} {c : Cursor} {x : Placed A} (r' : Reader A) → r (window os c) ≡ r' (window os c) → Gives r' os c x → Gives r os c x
unfolding at
alike r' e g = record { eq = rw e g.eq }

-- ## tests

pub passed : (n : PduParseErr) {b : Bool} {os : List ℕ} {c : Cursor} → b ≡ true → Gives (unless b n) os c (placed tt c)
passed n e = rw e done

pub failed : (n : PduParseErr) {b : Bool} {os : List ℕ} {c : Cursor} → b ≡ false → Gives (unless b n) os c (halted n)
failed n e = rw e refuse

-- a reader that runs where it is wanted, with values of another type
pub optional_through : {A B : Type 0} (f : Option A → B) (b : Bool) (r : Reader A) (bs : Bits)
    → optional (λ a. f (Some a)) (f None) b r bs ≡ (optional Some None b r >>= λ o. got (f o)) bs
optional_through f true r bs = sym (then-then (r bs) (λ a. got (Some a)) (λ o. got (f o)))
optional_through f false r bs = refl

-- ## a reader that has to use n bits

module _ {A : Type 0} {r : Reader A} {os : List ℕ} {c : Cursor} where
  pub exact : (n : ℕ) {a : A} {k : Cursor} → Gives r os c (placed a k) → Tail r → k.at - c.at ≡ n → Gives (exactly n r) os c (placed a k)
  exact n {a} {k} e lr h =
      let t = told lr e in
      let q : length (window os c) ≡ n + length (window os k) = omega arith in
      gives (rw t.said (rw (eq-eqb _ _ q))) t.on t.used t.same_end

  pub inexact : (n : ℕ) {a : A} {k : Cursor} → Gives r os c (placed a k) → Tail r → (k.at - c.at ≡ n → ⊥) → Gives (exactly n r) os c (halted inconsistent_length)
  inexact n {a} {k} e lr h =
      let t = told lr e in
      gives-not (rw t.said (rw (ne_eqb (length (window os c)) (n + length (window os k)) (λ q. h (omega arith)))))

  pub exact-stop : (n : ℕ) {m : PduParseErr} → Gives r os c (halted m) → Gives (exactly n r) os c (halted m)
  exact-stop n e = gives-not (rw (told-not e))

-- ## a reader run a number of times

-- m more after xs, made into one value by g
abbrev pub gathered : {A B : Type 0} → (List A → B) → Reader A → ℕ → List A → Reader B
gathered g r m xs = times m r >>= λ ys. got (g (xs ++ ys))

module _ {A B : Type 0} (g : List A → B) (r : Reader A) where
  gathered-suc : (m : ℕ) (xs : List A) (bs : Bits) → gathered g r (suc m) xs bs ≡ (r >>= λ a. gathered g r m (xs ++ a ∷ [])) bs
  unfolding times
  gathered-suc m xs bs =
      then-then (r bs) _ _
      ∙ then_same (r bs) (λ a rest.
      then-then (times m r rest) _ _
      ∙ then_same (times m r rest) (λ ys end. ap (λ zs. got (g zs) end) (sym (append_assoc xs (a ∷ []) ys))))

  pub gathered_none : (os : List ℕ) (c : Cursor) (xs : List A) → at (gathered g r 0 xs) os c ≡ placed (g xs) c
  unfolding times at
  gathered_none os c xs = rw (append-nil xs) done.eq

  -- ## a loop that fills an array: i of n are read, and stand at the front of xs

  module _ (os : List ℕ) (k : Cursor) (i n : ℕ) (xs : List A) (h : i < n) where
    one_less : n - i ≡ suc (n - (i + 1))
    one_less = omega arith

    pub turned : (a : A) (k' : Cursor) → i < length xs → Tail r → Gives r os k (placed a k')
        → at (gathered g r (n - i) (take i xs)) os k ≡ at (gathered g r (n - (i + 1)) (take (i + 1) (set xs i a))) os k'
    turned a k' l lr e =
        rw (one_less, add-one i, take-suc-set xs i a l)
        (alike (r >>= λ a. gathered g r (n - suc i) (take i xs ++ a ∷ [])) (gathered-suc (n - suc i) (take i xs) (window os k))
        (step (λ a. gathered g r (n - suc i) (take i xs ++ a ∷ [])) e lr (record { eq = refl }))).eq

    pub turned-not : (m : PduParseErr) → Gives r os k (halted m) → at (gathered g r (n - i) (take i xs)) os k ≡ halted m
    turned-not m e =
        rw one_less
        (alike (r >>= λ a. gathered g r (n - (i + 1)) (take i xs ++ a ∷ [])) (gathered-suc (n - (i + 1)) (take i xs) (window os k))
        (stop (λ a. gathered g r (n - (i + 1)) (take i xs ++ a ∷ [])) e)).eq

module _ {A : Type 0} (z : A) where
  -- what is not written stays as it was
  pub set-behind : (xs zs : List A) (i : ℕ) (a : A) → drop i xs ≡ drop i zs → drop (i + 1) (set xs i a) ≡ drop (i + 1) zs
  set-behind xs zs i a p = drop-set-lt (i + 1) xs i a (omega arith) ∙ sym (drop-drop 1 i xs) ∙ ap (drop 1) p ∙ drop-drop 1 i zs

  drop-replicate : (n m : ℕ) → drop n (replicate m z) ≡ replicate (m - n) z
  drop-replicate zero m = let q : m - 0 ≡ m = omega arith in rw q
  drop-replicate (suc n) zero = let q : 0 - suc n ≡ 0 = omega arith in rw q
  drop-replicate (suc n) (suc m) = let q : suc m - suc n ≡ m - n = omega arith in rw q (drop-replicate n m)

  -- the elements written and the zeros behind them are the array
  pub padded-array : (xs : List A) (i m : ℕ) → drop i xs ≡ drop i (replicate m z) → take i xs ++ replicate (m - i) z ≡ xs
  padded-array xs i m p = ap (λ (ys : List A). take i xs ++ ys) (sym (drop-replicate i m) ∙ sym p) ∙ take-append-drop i xs
