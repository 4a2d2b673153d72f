-- The parts of the messages' heads, read at a cursor.
use Rattle.std.specs.Prelude.{ℕ, ◌≡◌, refl, Bool, true, false, List, eqb, option_map}
use Rattle.std.proofs.Common.{sym, ◌∙◌, eq-eqb, ne_eqb}
use Rattle.std.specs.Prelude.{Option, None, Some}
use Rattle.bits.specs.PduParseError.{invalid_pdu_type}
use Rattle.bits.specs.Bits.{Bits}
use Rattle.bits.specs.Reader.{Answer, got, refused, Reader, then, ◌>>=◌, field, optional, Local, Tail}
use Rattle.bits.specs.ReaderLaws.{then-then, then_same, local·rules, local_tail, field-local, optional-local}
use Rattle.bits.specs.Placed.{window, Placed, placed, halted}
use Rattle.bits.specs.PlacedTimes.{alike}
use Rattle.bits.specs.PlacedLaws.{Gives, step, stop, done, refuse}
use Rattle.bits.specs.declared.bitbuffer.Cursor.{Cursor}
use Rattle.elements.specs.Numbers.{flag_width, type2}
use Rattle.elements.proofs.PlacedLocations.{read-made}
use Rattle.messages.specs.Head.{pdu_type_width, pdu_type}
use Rattle.messages.proofs.HeadLaws.{type_local, type2-local}
use Rattle.bits.specs.declared.pdu_parse_error.PduParseErr.{PduParseErr}

-- ## the type

module _ (m : ℕ) {os : List ℕ} {c : Cursor} where
  pub type_there : {v : ℕ} {k : Cursor} → v ≡ m → Gives (field pdu_type_width) os c (placed v k) → Gives (pdu_type m) os c (placed tt k)
  unfolding pdu_type
  type_there {v} e g = step _ g (search local·rules) (rw (eq-eqb v m e) done)

  pub type_ended : {n : PduParseErr} → Gives (field pdu_type_width) os c (halted n) → Gives (pdu_type m) os c (halted n)
  unfolding pdu_type
  type_ended g = stop _ g

  pub type_other : {v : ℕ} {k : Cursor} → (v ≡ m → ⊥) → Gives (field pdu_type_width) os c (placed v k) → Gives (pdu_type m) os c (halted invalid_pdu_type)
  unfolding pdu_type
  type_other {v} e g = step _ g (search local·rules) (rw (ne_eqb v m e) refuse)

-- ## a reading on its way

-- r at c comes to s at k: what s gives there, r gives here; and K holds of what was read
pub record Comes {B : Type 0} (K : Type 0) (r : Reader B) (os : List ℕ) (c : Cursor) (s : Reader B) (k : Cursor) : Type 0 where
  pub on : {x : Placed B} → Gives s os k x → Gives r os c x
  pub known : K

-- how far the reading of r has come
pub record Way {B : Type 0} (r : Reader B) : Type 1 where
  pub Known : Type 0
  pub octets : List ℕ
  pub start : Cursor
  pub left : Reader B
  pub place : Cursor
  pub comes : Comes Known r octets start left place

pub begin : {B : Type 0} {r : Reader B} {os : List ℕ} {c : Cursor} → Comes Unit r os c r c
begin = record { on = λ g. g; known = tt }

-- ONE READER FURTHER
abbrev pub past : {A B K : Type 0} {r : Reader B} {q : Reader A} (f : A → Reader B) {os : List ℕ} {c k n : Cursor} {a : A}
    → Comes K r os c (q >>= f) k → Gives q os k (placed a n) → Tail q → Way r
past {K = K} f {os} {c} {k} {n} {a} w g t =
    record { Known = K; octets = os; start = c; left = f a; place = n; comes = record { on = λ e. w.on (step f g t e); known = w.known } }

-- one field further
abbrev pub past-field : {B K : Type 0} {r : Reader B} (w : ℕ) (f : ℕ → Reader B) {os : List ℕ} {c k n : Cursor} {v : ℕ}
    → Comes K r os c (field w >>= f) k → Gives (field w) os k (placed v n) → Way r
past-field w f p g = past f p g (local_tail (field-local w))

-- past the type, which every head begins with
abbrev pub past_type : {B : Type 0} (m : ℕ) (f : Unit → Reader B) {os : List ℕ} {c n : Cursor} {v : ℕ} → v ≡ m → Gives (field pdu_type_width) os c (placed v n)
    → Way (pdu_type m >>= f)
past_type m f e g = past f begin (type_there m e g) (local_tail (type_local m))

-- past a type 2 element, and past a field that is there where the test holds
abbrev pub past-type2 : {A B K : Type 0} {r : Reader B} (q : Reader A) (f : Option A → Reader B) {os : List ℕ} {c k n : Cursor} {o : Option A}
    → Comes K r os c (type2 q >>= f) k → Gives (type2 q) os k (placed o n) → Local q → Way r
past-type2 q f w g l = past f w g (local_tail (type2-local q l))

abbrev pub past-optional : {A B K : Type 0} {r : Reader B} (q : Reader A) (b : Bool) (f : Option A → Reader B) {os : List ℕ} {c k n : Cursor} {o : Option A}
    → Comes K r os c (optional Some None b q >>= f) k → Gives (optional Some None b q) os k (placed o n) → Local q → Way r
past-optional q b f w g l = past f w g (local_tail (optional-local Some None b q l))

-- ## a type 2 element whose value is made of the one that the code reads

module _ {A B : Type 0} (g : A → B) (r : Reader A) where
  type2-of : (bs : Bits) → type2 (r >>= λ a. got (g a)) bs ≡ (type2 r >>= λ o. got (option_map g o)) bs
  type2-of bs = then_same (field flag_width bs) (λ p rest. go (eqb p 1) rest) ∙ sym (then-then (field flag_width bs) _ _)
    where
      at_value : (x : Answer A) → then (then x (λ a. got (g a))) (λ b. got (Some b)) ≡ then x (λ a. got (Some (g a)))
      at_value (got a rest) = refl
      at_value (refused n) = refl

      go : (b : Bool) (rest : Bits) → optional Some None b (r >>= λ a. got (g a)) rest ≡ (optional Some None b r >>= λ o. got (option_map g o)) rest
      go true rest = at_value (r rest) ∙ sym (then-then (r rest) _ _)
      go false rest = refl

  module _ {os : List ℕ} {c : Cursor} where
    pub type2-made : {o : Option A} {k : Cursor} → Gives (type2 r) os c (placed o k) → Gives (type2 (r >>= λ a. got (g a))) os c (placed (option_map g o) k)
    type2-made e = alike (type2 r >>= λ o. got (option_map g o)) (type2-of (window os c)) (read-made (option_map g) e)

    pub type2-unmade : {n : PduParseErr} → Gives (type2 r) os c (halted n) → Gives (type2 (r >>= λ a. got (g a))) os c (halted n)
    type2-unmade e = alike (type2 r >>= λ o. got (option_map g o)) (type2-of (window os c)) (stop _ e)
