-- Laws of what may be absent: it is read back, and what is present settles what is held.
use Rattle.std.specs.Prelude.{ℕ, ◌^◌, ◌≡◌, refl, Bool, true, false, ◌&&◌, ◌||◌, ◌++◌, eqb, is_some, option_map}
use Rattle.std.proofs.Common.{sym, ap, ◌∙◌, append_assoc, ltb-true}
use Rattle.std.proofs.lemmas.Bool.{false≢true}
use Rattle.std.specs.Prelude.{Option, None, Some}
use Rattle.bits.specs.Bits.{Bits, bit, digits}
use Rattle.bits.specs.BitsLaws.{bit_lt}
use Rattle.bits.specs.Reader.{Reader, got, field, optional}
use Rattle.bits.specs.ReaderLaws.{field_back}
use Rattle.elements.specs.Numbers.{held, value_or, optional_number, option_bits, option_all, in_width, Same, u8_of, in_u8, SameU8, u64_of, in_u64, SameU64, flag_width, type2, type2_bits}
use Rattle.elements.specs.declared.typed_pdu_fields.OptionalU8.{OptionalU8}
use Rattle.elements.specs.declared.typed_pdu_fields.OptionalU64.{OptionalU64}

-- ## tests

pub never : {P : Type 0} → false ≡ true → P
never e = absurd (false≢true e)

pub both : (a b : Bool) → (a && b) ≡ true → (a ≡ true) × (b ≡ true)
both true b e = (refl, e)
both false b e = never e

pub neither : (a b : Bool) → (a || b) ≡ false → (a ≡ false) × (b ≡ false)
neither true b e = never (sym e)
neither false b e = (refl, e)

-- ## reading back

pub one_bit : (b : Bool) → eqb (bit b) 1 ≡ b
one_bit true = refl
one_bit false = refl

-- a number in its width
pub number-back : (w v : ℕ) → in_width w v ≡ true → (rest : Bits) → field w (digits w v ++ rest) ≡ got v rest
number-back w v h rest = field_back w v rest (ltb-true v (2 ^ w) h)

module _ {A : Type 0} (r : Reader A) (bits : A → Bits) (normal : A → A) (test : A → Bool)
    (back : (a : A) → test a ≡ true → (rest : Bits) → r (bits a ++ rest) ≡ got (normal a) rest) where
  -- what may be absent is read back where the test says whether it is there
  pub optional-back : (b : Bool) (o : Option A) → b ≡ is_some o → option_all test o ≡ true → (rest : Bits)
      → optional Some None b r (option_bits bits o ++ rest) ≡ got (option_map normal o) rest
  optional-back b None e h rest = rw e
  optional-back b (Some a) e h rest = rw e (rw (back a h rest))

  -- a type 2 element is read back
  pub type2-back : (o : Option A) → option_all test o ≡ true → (rest : Bits) → type2 r (type2_bits bits o ++ rest) ≡ got (option_map normal o) rest
  type2-back o h rest =
      rw (append_assoc (digits flag_width (bit (is_some o))) (option_bits bits o) rest)
      (rw (field_back flag_width (bit (is_some o)) (option_bits bits o ++ rest) (bit_lt (is_some o)))
      (optional-back (eqb (bit (is_some o)) 1) o (one_bit (is_some o)) h rest))

pub option-same : {A : Type 0} (o : Option A) → option_map (λ a. a) o ≡ o
option-same None = refl
option-same (Some a) = refl

-- where each value is read back as it is
pub optional-same-back : {A : Type 0} (r : Reader A) (bits : A → Bits) (test : A → Bool)
    → ((a : A) → test a ≡ true → (rest : Bits) → r (bits a ++ rest) ≡ got a rest)
    → (b : Bool) (o : Option A) → b ≡ is_some o → option_all test o ≡ true → (rest : Bits)
    → optional Some None b r (option_bits bits o ++ rest) ≡ got o rest
optional-same-back r bits test back b o e h rest =
    optional-back r bits (λ a. a) test back b o e h rest ∙ ap (λ x. got x rest) (option-same o)

pub optional_number-back : (w : ℕ) (b : Bool) (o : Option ℕ) → b ≡ is_some o → option_all (in_width w) o ≡ true → (rest : Bits)
    → optional_number b w (option_bits (digits w) o ++ rest) ≡ got o rest
optional_number-back w = optional-same-back (field w) (digits w) (in_width w) (number-back w)

pub type2-same-back : {A : Type 0} (r : Reader A) (bits : A → Bits) (test : A → Bool)
    → ((a : A) → test a ≡ true → (rest : Bits) → r (bits a ++ rest) ≡ got a rest)
    → (o : Option A) → option_all test o ≡ true → (rest : Bits) → type2 r (type2_bits bits o ++ rest) ≡ got o rest
type2-same-back r bits test back o h rest = type2-back r bits (λ a. a) test back o h rest ∙ ap (λ x. got x rest) (option-same o)

pub type2-number-back : (w : ℕ) (o : Option ℕ) → option_all (in_width w) o ≡ true → (rest : Bits) → type2 (field w) (type2_bits (digits w) o ++ rest) ≡ got o rest
type2-number-back w = type2-same-back (field w) (digits w) (in_width w) (number-back w)

-- ## what is held

module _ {A : Type 0} where
  pub is_some-held : (p : Bool) (a : A) → is_some (held p a) ≡ p
  is_some-held true a = refl
  is_some-held false a = refl

  -- an option is what its presence and its value hold
  pub held-option : (z : A) (o : Option A) → held (is_some o) (value_or z o) ≡ o
  held-option z None = refl
  held-option z (Some a) = refl

  -- what is held is the same with another value for what is absent
  pub same_self : (z : A) (p : Bool) (a : A) → Same ◌≡◌ p a (is_some (held p a)) (value_or z (held p a))
  same_self z true a = record { presence = refl; value = λ e. refl }
  same_self z false a = record { presence = refl; value = λ e. never e }

  -- and with its normal form for what is present
  pub same-normal : {eq : A → A → Type 0} (z : A) (normal : A → A) (p : Bool) (a : A) → (p ≡ true → eq a (normal a))
      → Same eq p a (is_some (option_map normal (held p a))) (value_or z (option_map normal (held p a)))
  same-normal z normal true a h = record { presence = refl; value = h }
  same-normal z normal false a h = record { presence = refl; value = λ e. never e }

-- two that are the same hold the same, through a function that does not tell their values apart
pub same_map : {A B : Type 0} {eq : A → A → Type 0} (f : A → B) → ((a b : A) → eq a b → f a ≡ f b)
    → {p : Bool} {a : A} {q : Bool} {b : A} → Same eq p a q b → option_map f (held p a) ≡ option_map f (held q b)
same_map f h {p = true} {a} {q} {b} s = rw (← s.presence) (ap Some (h a b (s.value refl)))
same_map f h {p = false} s = rw (← s.presence)

pub same-held : {A : Type 0} {p : Bool} {a : A} {q : Bool} {b : A} → Same ◌≡◌ p a q b → held p a ≡ held q b
same-held {p = p} {a} {q} {b} s = sym (option-same (held p a)) ∙ same_map (λ x. x) (λ x y e. e) s ∙ option-same (held q b)

-- ## the declared types

pub same_u8 : {o u : OptionalU8} → SameU8 o u → u8_of (in_u8 o) ≡ u8_of (in_u8 u)
same_u8 s = ap u8_of (same-held s)

pub same_u8_self : (o : OptionalU8) → SameU8 o (u8_of (in_u8 o))
same_u8_self o = same_self 0 o.present o.value

pub same_u64 : {o u : OptionalU64} → SameU64 o u → u64_of (in_u64 o) ≡ u64_of (in_u64 u)
same_u64 s = ap u64_of (same-held s)

pub same_u64_self : (o : OptionalU64) → SameU64 o (u64_of (in_u64 o))
same_u64_self o = same_self 0 o.present o.value
