-- What the verdict tells of an answer that holds it beside the value.
use Rattle.std.specs.Prelude.{ℕ, ◌≡◌, List, Result, Ok, Err}
use Rattle.std.proofs.Common.{sym, ap, ◌∙◌}
use Rattle.bits.specs.Reader.{Reader}
use Rattle.bits.specs.ReaderLaws.{zero_one}
use Rattle.bits.specs.Placed.{Placed, placed, halted, at}
use Rattle.bits.specs.PlacedLaws.{Gives}
use Rattle.bits.specs.declared.bitbuffer.Cursor.{Cursor}
use Rattle.bits.specs.declared.pdu_parse_error.PduParseErr.{PduParseErr}
use Rattle.elements.specs.Answers.{judged}
use Rattle.elements.specs.declared.typed_pdu_fields.Judged.{Judged}

-- a function's own promise
pub answer : {A X : Type 0} (f : Placed A → X) {r : Reader A} {os : List ℕ} {c : Cursor} {x : Placed A} → Gives r os c x → f x ≡ f (at r os c)
answer f g = ap f (sym g.eq)

-- a callee's answer, returned as it came: what it was made of is given here too
pub returned : {A X : Type 0} (f : Placed A → X) {r r' : Reader A} {os os' : List ℕ} {c c' : Cursor} {x : Placed A} {y : X}
    → y ≡ f (at r os c) → Gives r os c x → Gives r' os' c' x → y ≡ f (at r' os' c')
returned f e g h = e ∙ ap f g.eq ∙ answer f h

ok-err : {A B E : Type 0} {a : A} {e : E} → ◌≡◌ {A = Result A E} (Ok a) (Err e) → B
ok-err p = zero_one (cc)

module _ {A : Type 0} (absent : A) {r : Reader A} {os : List ℕ} {c : Cursor} {y : Judged A} (e : y ≡ judged absent (at r os c)) where
  pub verdict_to : {k : Cursor} → y.verdict ≡ Ok k → Gives r os c (placed y.value k)
  verdict_to {k} v = record { eq = go (at r os c) e }
    where
      go : (x : Placed A) → y ≡ judged absent x → x ≡ placed y.value k
      go (placed a j) p =
          let h : ◌≡◌ {A = Result Cursor PduParseErr} (Ok j) (Ok k) = sym (ap (λ (y : Judged A). y.verdict) p) ∙ v in
          let same : j ≡ k = cc in
          let held : a ≡ y.value = sym (ap (λ (y : Judged A). y.value) p) in
          rw (same, ← held)
      go (halted n) p = ok-err (sym v ∙ ap (λ (y : Judged A). y.verdict) p)

  pub verdict_refused : {n : PduParseErr} → y.verdict ≡ Err n → Gives r os c (halted n)
  verdict_refused {n} v = record { eq = go (at r os c) e }
    where
      go : (x : Placed A) → y ≡ judged absent x → x ≡ halted n
      go (placed a j) p = ok-err (sym (ap (λ (y : Judged A). y.verdict) p) ∙ v)
      go (halted m) p =
          let h : ◌≡◌ {A = Result Cursor PduParseErr} (Err m) (Err n) = sym (ap (λ (y : Judged A). y.verdict) p) ∙ v in
          let same : m ≡ n = cc in
          ap halted same
