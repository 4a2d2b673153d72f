-- Numbers that may be absent: read, written, asked for their width; and the values of what may be absent.
use Rattle.std.specs.Prelude.{ℕ, ◌^◌, ◌≡◌, Bool, true, false, cond, [], ◌++◌, ltb, eqb, is_some, unwrap_or}
use Rattle.std.specs.Prelude.{Option, None, Some}
use Rattle.bits.specs.Bits.{Bits, bit, digits}
use Rattle.bits.specs.Reader.{Reader, got, ◌>>=◌, field, optional}
use Rattle.elements.specs.declared.typed_pdu_fields.OptionalU8.{OptionalU8}
use Rattle.elements.specs.declared.typed_pdu_fields.OptionalU64.{OptionalU64}

-- what is present, as an option
abbrev pub held : {A : Type 0} → Bool → A → Option A
held true a = Some a
held false a = None

-- the value, or another where there is none
abbrev pub value_or : {A : Type 0} → A → Option A → A
value_or z o = unwrap_or o z

-- a number that is there if the test holds
abbrev pub optional_number : Bool → ℕ → Reader (Option ℕ)
optional_number b w = optional Some None b (field w)

-- the bits of what is present: none of what is absent
abbrev pub option_bits : {A : Type 0} → (A → Bits) → Option A → Bits
option_bits bits None = []
option_bits bits (Some a) = bits a

-- what is asked of what is present
abbrev pub option_all : {A : Type 0} → (A → Bool) → Option A → Bool
option_all test None = true
option_all test (Some a) = test a

-- QUESTION 8 for a number: it is in its width
abbrev pub in_width : ℕ → ℕ → Bool
in_width w v = ltb v (2 ^ w)

-- two that may be absent are the same if what is present is equal
pub record Same {A : Type 0} (eq : A → A → Type 0) (p : Bool) (a : A) (q : Bool) (b : A) : Type 0 where
  pub presence : p ≡ q
  pub value : p ≡ true → eq a b

-- ## the declared types

abbrev pub u8_of : Option ℕ → OptionalU8
u8_of o = record { present = is_some o; value = value_or 0 o }

abbrev pub in_u8 : OptionalU8 → Option ℕ
in_u8 o = held o.present o.value

abbrev pub SameU8 : OptionalU8 → OptionalU8 → Type 0
SameU8 o u = Same ◌≡◌ o.present o.value u.present u.value

abbrev pub u64_of : Option ℕ → OptionalU64
u64_of o = record { present = is_some o; value = value_or 0 o }

abbrev pub in_u64 : OptionalU64 → Option ℕ
in_u64 o = held o.present o.value

abbrev pub SameU64 : OptionalU64 → OptionalU64 → Type 0
SameU64 o u = Same ◌≡◌ o.present o.value u.present u.value

-- ## type 2 elements and the O-bit (annex E)

abbrev pub flag_width : ℕ
flag_width = 1

-- P-bit, then the value if it is 1
abbrev pub type2 : {A : Type 0} → Reader A → Reader (Option A)
type2 r = field flag_width >>= λ p. optional Some None (eqb p 1) r

-- the same, held as f makes it
abbrev pub type2_as : {A B : Type 0} → (Option A → B) → Reader A → Reader B
type2_as f r = type2 r >>= λ o. got (f o)

abbrev pub type2_bits : {A : Type 0} → (A → Bits) → Option A → Bits
type2_bits bits o = digits flag_width (bit (is_some o)) ++ option_bits bits o

-- the O-bit, and what follows where it is 1
abbrev pub announced : Bool → Bits → Bits
announced more xs = digits flag_width (bit more) ++ cond more xs []
