-- Laws of the heads' parts: local, passed by the layout, read back.
use Rattle.std.specs.Prelude.{ℕ, ◌≡◌, refl, Bool, true, false, cond, List, [], ◌∷◌, ◌++◌, eqb}
use Rattle.std.proofs.Common.{ap, append_assoc, eq-eqb}
use Rattle.std.specs.Prelude.{Option, None, Some}
use Rattle.bits.specs.PduParseError.{invalid_pdu_type}
use Rattle.bits.specs.Bits.{Bits, bit, digits}
use Rattle.bits.specs.BitsLaws.{bit_lt}
use Rattle.bits.specs.Reader.{Reader, got, ◌>>=◌, field, pass, unless, Local}
use Rattle.bits.specs.ReaderLaws.{local·rules, refused-got, field_back, got-local, bind_local, Follows, Passes, got-passes, field-passes, bind_passes, got_follows, optional_follows, by-pass, by-same}
use Rattle.elements.specs.Numbers.{in_width, flag_width, type2, announced}
use Rattle.elements.proofs.NumbersLaws.{number-back, one_bit}
use Rattle.messages.specs.Head.{pdu_type_width, pdu_type, behind_obit, pass_if, pass_type2, layout_options}

-- ## the type

pub type_local : (m : ℕ) → Local (pdu_type m)
unfolding pdu_type
type_local m = search local·rules

pub type_passes : (m : ℕ) → Passes pdu_type_width (pdu_type m)
unfolding pdu_type
type_passes m = bind_passes pdu_type_width 0 (field pdu_type_width) _ refl (field-passes pdu_type_width) (λ t. go (eqb t m))
  where
    go : (b : Bool) → Passes 0 (unless b invalid_pdu_type)
    go true = got-passes tt
    go false = record { at = λ bs a rest e. refused-got e }

pub type_back : (m : ℕ) → in_width pdu_type_width m ≡ true → (rest : Bits) → pdu_type m (digits pdu_type_width m ++ rest) ≡ got tt rest
unfolding pdu_type
type_back m h rest = rw (number-back pdu_type_width m h rest) (rw (eq-eqb m m refl))

-- ## type 2 elements

pass_type2-local : (ws : List ℕ) → Local (pass_type2 ws)
unfolding pass_type2
pass_type2-local [] = got-local tt
pass_type2-local (w ∷ ws) = bind_local (field flag_width >>= λ p. pass_if (eqb p 1) (pass w)) _ (search local·rules) (λ z. pass_type2-local ws)

pub layout_options-local : (ws : List ℕ) → Local (layout_options ws)
unfolding layout_options
layout_options-local ws = search (local·rules, pass_type2-local) depth 8

pub type2-local : {A : Type 0} (r : Reader A) → Local r → Local (type2 r)
type2-local r l = search local·rules

-- one of w bits is passed by its width
pub type2_follows : {A B : Type 0} (w : ℕ) (ws : List ℕ) (r : Reader A) (f : Option A → Reader B) {k : B → Unit} → Passes w r
    → ((o : Option A) → Follows (f o) (pass_type2 ws) k) → Follows (type2 r >>= f) (pass_type2 (w ∷ ws)) k
unfolding pass_type2
type2_follows w ws r f h hf =
    by-pass (type2 r) _ f _ (by-same (field flag_width) _ _ (λ p. optional_follows Some None (eqb p 1) r (pass w) h)) hf

-- none is left
pub end_follows : {A : Type 0} (a : A) → Follows (λ bs. got a bs) (pass_type2 []) (λ x. tt)
unfolding pass_type2
end_follows a = got_follows a _

-- ## what an O-bit announces

module _ {A : Type 0} (r : Reader A) (z : A) where
  pub behind-local : Local r → (b : Bool) → Local (behind_obit r z b)
  behind-local l true = l
  behind-local l false = got-local z

  pub behind_follows : (w : Reader Unit) → Follows r w (λ a. tt) → (b : Bool) → Follows (behind_obit r z b) (pass_if b w) (λ a. tt)
  behind_follows w h true = record { at = λ bs a rest e. rw (h.at bs a rest e) }
  behind_follows w h false = got_follows z _

  -- an O-bit is read back, and behind an O-bit of 1 the type 2 elements that stand before xs
  pub announced-back : {B : Type 0} (before : Bits → Bits) (a : A) → ((xs rest : Bits) → before xs ++ rest ≡ before (xs ++ rest))
      → ((rest : Bits) → r (before rest) ≡ got a rest) → (o : Bool) → (o ≡ false → z ≡ a) → (f : ℕ → A → Reader B) (xs rest : Bits)
      → (field flag_width >>= λ b. behind_obit r z (eqb b 1) >>= f b) (announced o (before xs) ++ rest) ≡ f (bit o) a (cond o xs [] ++ rest)
  announced-back before a append back o absent f xs rest =
      rw (append_assoc (digits flag_width (bit o)) _ rest)
      (rw (field_back flag_width (bit o) _ (bit_lt o)) (rw (one_bit o) (rw (behind o absent))))
    where
      behind : (o : Bool) → (o ≡ false → z ≡ a) → behind_obit r z o (cond o (before xs) [] ++ rest) ≡ got a (cond o xs [] ++ rest)
      behind true absent = rw (append xs rest) (back (xs ++ rest))
      behind false absent = ap (λ x. got x rest) (absent refl)
