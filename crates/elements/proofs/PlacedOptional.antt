-- What may be absent, read at a cursor.
use Rattle.std.specs.Prelude.{ℕ, ◌^◌, ◌<◌, ◌≡◌, Bool, true, false, List, eqb}
use Rattle.std.proofs.Common.{sym, ◌∙◌, eq-eqb, ne_eqb}
use Rattle.std.proofs.Math.Path.{ap}
use Rattle.std.specs.Prelude.{Option, None, Some}
use Rattle.bits.specs.Reader.{Answer, Reader, got, refused, then, ◌>>=◌, field, optional, Tail}
use Rattle.bits.specs.ReaderLaws.{local_tail, field-local, field_lt, got-local, bind_tail, split-then, got-refused}
use Rattle.std.specs.Prelude.{Result, Ok, Err, option_map, refl}
use Rattle.bits.specs.Placed.{window, Placed, placed, halted, at, as_by, as_read}
use Rattle.bits.specs.PlacedLaws.{Gives, told, told-not, gives, gives-not, step, stop, done}
use Rattle.bits.specs.declared.bitbuffer.Cursor.{Cursor}
use Rattle.elements.specs.Numbers.{flag_width, type2}
use Rattle.bits.specs.declared.pdu_parse_error.PduParseErr.{PduParseErr}

-- the end, with a value that is equal
pub ends : {A : Type 0} {a b : A} {os : List ℕ} {c : Cursor} → a ≡ b → Gives (got a) os c (placed b c)
ends e = rw e done

-- what was read, known to be another
pub known : {A : Type 0} {r : Reader A} {os : List ℕ} {c k : Cursor} {a b : A} → Gives r os c (placed a k) → a ≡ b → Gives r os c (placed b k)
known {k = k} g e = record { eq = g.eq ∙ ap (λ a. placed a k) e }

-- a field that was read fits its width
pub field-small : (w : ℕ) {os : List ℕ} {c : Cursor} {v : ℕ} {k : Cursor} → Gives (field w) os c (placed v k) → v < 2 ^ w
field-small w {os} {c} e = field_lt w (window os c) (told (local_tail (field-local w)) e).said

-- ## a reader that runs where it is wanted

module _ {A B : Type 0} (present : A → B) (absent : B) (r : Reader A) {b : Bool} {os : List ℕ} {c : Cursor} where
  wanted : {x : Placed B} → b ≡ true → Gives (r >>= λ a. got (present a)) os c x → Gives (optional present absent b r) os c x
  wanted e g = rw e g

  pub wanted-refused : {n : PduParseErr} → b ≡ true → Gives r os c (halted n) → Gives (optional present absent b r) os c (halted n)
  wanted-refused e g = wanted e (stop _ g)

  pub wanted_read : {a : A} {k : Cursor} → b ≡ true → Tail r → Gives r os c (placed a k) → Gives (optional present absent b r) os c (placed (present a) k)
  wanted_read e t g = wanted e (step _ g t done)

  pub unwanted : b ≡ false → Gives (optional present absent b r) os c (placed absent c)
  unwanted e = rw e done

-- ## a value that the code holds as f makes it

module _ {A B : Type 0} (f : A → B) (r : Reader A) {os : List ℕ} {c : Cursor} where
  -- it was made of one that r gives (which is bound by a λ, so that it does not unfold)
  pub made_of : {X : Type 0} {b : B} {k : Cursor} → Gives (r >>= λ a. got (f a)) os c (placed b k) → Tail r
      → ((a : A) → f a ≡ b → Gives r os c (placed a k) → X) → X
  made_of {X} {b} {k} e lr to =
      let t = told (bind_tail r (λ a. got (f a)) lr (λ a. local_tail (got-local (f a)))) e in
      split-then (r (window os c)) (λ a. got (f a)) t.said (λ a mid p q.
      let m : mid ≡ window os k = cc in
      let v : f a ≡ b = cc in
      to a v (gives (p ∙ ap (got a) m) t.on t.used t.same_end))

  pub made-not : {n : PduParseErr} → Gives (r >>= λ a. got (f a)) os c (halted n) → Gives r os c (halted n)
  made-not {n} e = gives-not (go (r (window os c)) (told-not e))
    where
      go : (x : Answer A) → then x (λ a. got (f a)) ≡ refused n → x ≡ refused n
      go (got a rest) q = got-refused q
      go (refused m) q = cc

-- ## a number that the code holds as it is

itself : {A : Type 0} (o : Option A) → option_map (λ v. v) o ≡ o
itself None = refl
itself (Some a) = refl

pub by_itself : {A : Type 0} (y : Result (Option A × Cursor) PduParseErr) → as_by (option_map (λ v. v)) y ≡ as_read y
by_itself (Ok (o, k)) = ap (λ o. placed o k) (itself o)
by_itself (Err e) = refl

-- what a callee's promise tells of it
pub from-option : {A : Type 0} {r : Reader (Option A)} {os : List ℕ} {c k : Cursor} {o : Option A} → placed (option_map (λ v. v) o) k ≡ at r os c → Gives r os c (placed o k)
from-option {k = k} {o = o} e = record { eq = sym e ∙ ap (λ o. placed o k) (itself o) }

-- ## a type 2 element: the P-bit, then the value if it is 1

module _ {A : Type 0} (r : Reader A) {os : List ℕ} {c : Cursor} where
  pub type2-ended : {n : PduParseErr} → Gives (field flag_width) os c (halted n) → Gives (type2 r) os c (halted n)
  type2-ended e = stop _ e

  module _ {p : ℕ} {k : Cursor} (e : Gives (field flag_width) os c (placed p k)) where
    there : {x : Placed (Option A)} → Gives (optional Some None (eqb p 1) r) os k x → Gives (type2 r) os c x
    there g = step _ e (local_tail (field-local flag_width)) g

    pub type2-refused : p ≡ 1 → {n : PduParseErr} → Gives r os k (halted n) → Gives (type2 r) os c (halted n)
    type2-refused h g = there (wanted-refused Some None r (eq-eqb p 1 h) g)

    pub type2-read : p ≡ 1 → Tail r → {a : A} {j : Cursor} → Gives r os k (placed a j) → Gives (type2 r) os c (placed (Some a) j)
    type2-read h t g = there (wanted_read Some None r (eq-eqb p 1 h) t g)

    pub type2-absent : (p ≡ 1 → ⊥) → Gives (type2 r) os c (placed None k)
    type2-absent h = there (unwanted Some None r (ne_eqb p 1 h))
