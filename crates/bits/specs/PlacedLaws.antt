-- Readers at a cursor, one after the other.
use Rattle.std.specs.Prelude.{Result, Err, IsErrAnd}
use Rattle.std.proofs.lemmas.Result.{err_from_is_err_and}
use Rattle.std.specs.Prelude.{ℕ, ◌+◌, ◌-◌, ◌*◌, ◌≤◌, ◌<◌, ◌≡◌, Bool, cond, List, ◌++◌, take, leb}
use native.Mathlib.Omega.{arith}
use Rattle.std.proofs.Math.Path.{refl}
use Rattle.std.proofs.Common.{sym, ◌∙◌, ap, length-append, length-take, take-add, drop-drop, length-take-le, drop_at, le-leb}
use Rattle.std.proofs.Math.Bool.{true, false}
use Rattle.std.proofs.Math.ListN.{length, drop, length-drop}
use Rattle.std.proofs.Math.Seq.{take-take}
use Rattle.std.proofs.lemmas.Bool.{lt-leb}
use Rattle.bits.specs.PduParseError.{buffer_ended}
use Rattle.bits.specs.Bits.{Bits, bits_of}
use Rattle.bits.specs.BitsLaws.{length-bits_of}
use Rattle.bits.specs.Reader.{Answer, got, refused, Reader, ◌>>=◌, field, word, pass, Tail}
use Rattle.bits.specs.ReaderLaws.{zero_one, local_tail, field-local, field-enough, field-short}
use Rattle.bits.specs.Placed.{window, left, field_at, onward, Placed, placed, halted, place, at, as_by, as_read, as_moved}
use Rattle.bits.specs.declared.bitbuffer.Cursor.{Cursor}
use Rattle.bits.specs.declared.pdu_parse_error.PduParseErr.{PduParseErr}

pub halted-placed : {A B : Type 0} {a : A} {c : Cursor} {n : PduParseErr} → halted n ≡ placed a c → B
halted-placed e = zero_one (cc)

pub length-window : (os : List ℕ) (c : Cursor) → length (window os c) ≡ left (length os) c
unfolding window
length-window os c = rw (length-take (c.end - c.at) (drop c.at (bits_of os)), length-drop c.at (bits_of os), length-bits_of os)

-- the bits after those that were used
record After (os : List ℕ) (c : Cursor) (used rest : Bits) : Type 0 where
  there : window os (record { at = c.at + length (window os c) - length rest; end = c.end }) ≡ rest
  long : length (window os c) ≡ length used + length rest

window-after : (os : List ℕ) (c : Cursor) (used rest : Bits) → window os c ≡ used ++ rest → After os c used rest
unfolding window
window-after os c used rest e =
    let B : Bits = drop c.at (bits_of os) in
    let n : ℕ = length used in
    let m : ℕ = c.end - (c.at + n) in
    let lw : length (window os c) ≡ n + length rest = ap length e ∙ length-append used rest in
    let lm : length (window os c) ≡ left (length os) c = length-window os c in
    let lb : length B ≡ 8 * length os - c.at = length-drop c.at (bits_of os) ∙ ap (λ (x : ℕ). x - c.at) (length-bits_of os) in
    let e₁ : c.at + length (window os c) - length rest ≡ c.at + n = omega arith in
    let e₂ : c.end - c.at ≡ n + m = omega arith in
    let t : take n B ++ take m (drop n B) ≡ used ++ rest = sym (take-add n m B) ∙ ap (λ (k : ℕ). take k B) (sym e₂) ∙ e in
    record {
      there =
          rw (e₁, ← drop-drop n c.at (bits_of os))
          (sym (drop_at (take n B) (take m (drop n B)) n (length-take-le n B (omega arith))) ∙ ap (drop n) t ∙ drop_at used rest n refl);
      long = lw;
    }

-- r gives x at c (a record, so that r, os and c are seen in it)
pub record Gives {A : Type 0} (r : Reader A) (os : List ℕ) (c : Cursor) (x : Placed A) : Type 0 where
  pub eq : at r os c ≡ x

-- what an answer at a cursor tells
pub record Told {A : Type 0} (r : Reader A) (os : List ℕ) (c : Cursor) (a : A) (k : Cursor) : Type 0 where
  pub said : r (window os c) ≡ got a (window os k)
  pub on : c.at ≤ k.at
  pub used : c.at + length (window os c) ≡ k.at + length (window os k)
  pub same_end : k.end ≡ c.end

-- the function's own promise
pub so : {A : Type 0} {r : Reader A} {os : List ℕ} {c : Cursor} {x : Placed A} → Gives r os c x → x ≡ at r os c
so g = sym g.eq

-- what a callee's promise tells of its answer
pub from : {A : Type 0} {r : Reader A} {os : List ℕ} {c : Cursor} {x : Placed A} → x ≡ at r os c → Gives r os c x
from e = record { eq = sym e }

-- the same, where the answer was told to be another
pub by : {A : Type 0} {r : Reader A} {os : List ℕ} {c : Cursor} {x y : Placed A} → x ≡ at r os c → x ≡ y → Gives r os c y
by e p = record { eq = sym e ∙ p }

-- the same of a refusal that was taken out of the answer
pub refused_by : {A : Type 0} {r : Reader A} {os : List ℕ} {c : Cursor} {y : Result (A × Cursor) PduParseErr} {e : PduParseErr}
    → as_read y ≡ at r os c → y ≡ Err e → Gives r os c (halted e)
refused_by e p = by e (ap as_read p)

pub refused_moving : {r : Reader Unit} {os : List ℕ} {c : Cursor} {y : Result Cursor PduParseErr} {e : PduParseErr}
    → as_moved y ≡ at r os c → y ≡ Err e → Gives r os c (halted e)
refused_moving e p = by e (ap as_moved p)

-- A REFUSAL HANDED UP by `?`
module _ {A : Type 0} {r : Reader A} {os : List ℕ} {c : Cursor} {e : PduParseErr} where
  pub handed_up_by : {X : Type 0} (f : X → A) (y : Result (X × Cursor) PduParseErr) → IsErrAnd y (λ x. x ≡ e) → Gives r os c (halted e) → as_by f y ≡ at r os c
  handed_up_by f y h g = let w = err_from_is_err_and y h in rw (w.1, w.2) (so g)

  pub handed_up : (y : Result (A × Cursor) PduParseErr) → IsErrAnd y (λ x. x ≡ e) → Gives r os c (halted e) → as_read y ≡ at r os c
  handed_up = handed_up_by (λ v. v)

module _ {A : Type 0} {r : Reader A} {os : List ℕ} {c : Cursor} where
  pub told : Tail r → {a : A} {k : Cursor} → Gives r os c (placed a k) → Told r os c a k
  unfolding at
  told lr {a} {k} e = go (r (window os c)) refl e.eq
    where
      go : (x : Answer A) → r (window os c) ≡ x → place c (length (window os c)) x ≡ placed a k → Told r os c a k
      go (refused n) q e = halted-placed e
      go (got y rest) q e =
          let u = lr.at (window os c) y rest q in
          let w = window-after os c u.0 rest u.1 in
          let k' : Cursor = record { at = c.at + length (window os c) - length rest; end = c.end } in
          let h : k' ≡ k = cc in
          let ya : y ≡ a = cc in
          let said' : r (window os c) ≡ got y (window os k') = rw w.there q in
          let used' : c.at + length (window os c) ≡ k'.at + length (window os k') = rw w.there (omega (arith, w.long)) in
          rw (← h, ← ya) (record { said = said'; on = omega arith; used = used'; same_end = refl })

  pub told-not : {n : PduParseErr} → Gives r os c (halted n) → r (window os c) ≡ refused n
  unfolding at
  told-not {n} e = go (r (window os c)) e.eq
    where
      go : (x : Answer A) → place c (length (window os c)) x ≡ halted n → x ≡ refused n
      go (refused m) e = cc
      go (got a rest) e = halted-placed (sym e)

  pub gives-not : {n : PduParseErr} → r (window os c) ≡ refused n → Gives r os c (halted n)
  unfolding at
  gives-not e = record { eq = rw e }

  pub gives : {a : A} {k : Cursor} → r (window os c) ≡ got a (window os k) → c.at ≤ k.at → c.at + length (window os c) ≡ k.at + length (window os k)
      → k.end ≡ c.end → Gives r os c (placed a k)
  unfolding at
  gives {a} {k} e o u s =
      let p : c.at + length (window os c) - length (window os k) ≡ k.at = omega arith in
      record { eq = rw e (rw (p, ← s)) }

pub handed_up_moved : {r : Reader Unit} {os : List ℕ} {c : Cursor} {e : PduParseErr} (y : Result Cursor PduParseErr)
    → IsErrAnd y (λ x. x ≡ e) → Gives r os c (halted e) → as_moved y ≡ at r os c
handed_up_moved y h g = let w = err_from_is_err_and y h in rw (w.1, w.2) (so g)

module _ {A B : Type 0} {r : Reader A} (f : A → Reader B) {os : List ℕ} {c : Cursor} where
  -- ONE READER, AND THEN THE NEXT
  pub step : {a : A} {k : Cursor} → Gives r os c (placed a k) → Tail r → {x : Placed B} → Gives (f a) os k x → Gives (r >>= f) os c x
  unfolding at
  step {a} {k} e lr {x} g = let t = told lr e in record { eq = rw t.said (go (f a (window os k)) t g.eq) }
    where
      go : (y : Answer B) → Told r os c a k → place k (length (window os k)) y ≡ x → place c (length (window os c)) y ≡ x
      go (refused n) t e = e
      go (got b rest) t e = rw (t.used, ← t.same_end) e

  -- A REFUSAL ENDS IT
  pub stop : {n : PduParseErr} → Gives r os c (halted n) → Gives (r >>= f) os c (halted n)
  stop e = gives-not (rw (told-not e))

-- THE END
pub done : {A : Type 0} {a : A} {os : List ℕ} {c : Cursor} → Gives (got a) os c (placed a c)
done = gives refl (omega arith) refl refl

pub refuse : {A : Type 0} {n : PduParseErr} {os : List ℕ} {c : Cursor} → Gives {A = A} (λ bs. refused n) os c (halted n)
refuse = gives-not refl

-- ## fields: ONE LAW FOR EVERY WIDTH

module _ (os : List ℕ) (c : Cursor) (w : ℕ) where
  field-there : w ≤ left (length os) c → Gives (field w) os c (placed (field_at os c.at w) (onward w c))
  unfolding at window
  field-there h =
      let B : Bits = drop c.at (bits_of os) in
      let l = length-window os c in
      let ld : length (drop w (window os c)) ≡ length (window os c) - w = length-drop w (window os c) in
      let e : c.at + length (window os c) - length (drop w (window os c)) ≡ c.at + w = omega arith in
      record { eq = rw (field-enough w (window os c) (omega arith)) (rw (e, take-take w (c.end - c.at) B (omega arith))) }

  field-ended : left (length os) c < w → Gives (field w) os c (halted buffer_ended)
  field-ended h = gives-not (field-short w (window os c) (rw (length-window os c) h))

  module _ (n : ℕ) where
    -- a width that the answer's type holds
    pub word-field : {x : Placed ℕ} → w ≤ n → Gives (field w) os c x → Gives (word n w) os c x
    unfolding at word
    word-field h g = record { eq = rw (le-leb w n h) g.eq }

    pub word-there : w ≤ n → w ≤ left (length os) c → Gives (word n w) os c (placed (field_at os c.at w) (onward w c))
    word-there h k = word-field h (field-there k)

    pub word-ended : left (length os) c < w → Gives (word n w) os c (halted buffer_ended)
    unfolding at word
    word-ended h = record { eq = go (leb w n) }
      where
        go : (b : Bool) → place c (length (window os c)) (cond b (field w (window os c)) (refused buffer_ended)) ≡ halted buffer_ended
        go true = (field-ended h).eq
        go false = refl

    pub word_wide : n < w → Gives (word n w) os c (halted buffer_ended)
    unfolding at word
    word_wide h = record { eq = rw (lt-leb w n h) }

  pub pass-there : w ≤ left (length os) c → Gives (pass w) os c (placed tt (onward w c))
  unfolding pass
  pass-there h = step _ (field-there h) (local_tail (field-local w)) done

  pub pass-ended : left (length os) c < w → Gives (pass w) os c (halted buffer_ended)
  unfolding pass
  pass-ended h = stop _ (field-ended h)

-- ## a fact with its statement, so that a proof names it once and its needs cite it

pub record Fact : Type 1 where
  pub Said : Type 0
  pub holds : Said

abbrev pub fact : {A : Type 0} → A → Fact
fact {A} h = record { Said = A; holds = h }
