-- Laws of the fields and the type 2 elements as they are written: their bits one after the other, and how many.
use Rattle.std.specs.Prelude.{ℕ, zero, suc, ◌+◌, ◌*◌, ◌/◌, ◌^◌, ◌≤◌, ◌≡◌, refl, option_map, Bool, true, false, cond, List, [], ◌∷◌, ◌++◌, length, is_some, Option, None, Some}
use Rattle.std.proofs.Common.{arith, sym, ap, ◌∙◌, append_assoc, append-nil, length-append}
use Rattle.bits.specs.Bits.{Bits, bit, digits}
use Rattle.bits.specs.BitsLaws.{length_digits, digits_append, digits-add}
use Rattle.bits.specs.Written.{joined, Holds}
use Rattle.bits.specs.declared.bitbuffer.Digits.{Digits}
use Rattle.elements.specs.Numbers.{held, option_bits, option_all, in_u64, flag_width, type2_bits}
use Rattle.elements.proofs.NumbersLaws.{never, neither}
use Rattle.messages.specs.Head.{pdu_type_width}
use Rattle.messages.specs.Questions.{Question, fits, ciphered, attached, formed, alive, saving, type3_only, short}
use Rattle.messages.specs.Description.{Field, number, switched, FieldValue, Type2, Description, Fields, Options, fields_bits, options_bits, any_option, head_bits, field_asked, fields_asked, options_asked}
use Rattle.elements.specs.declared.typed_pdu_fields.OptionalU64.{OptionalU64}
use Rattle.messages.specs.Type2Elements.{la_value_width, la}
use Rattle.messages.proofs.DescriptionLaws.{of_options, Sound, AllSound}
use Rattle.messages.proofs.DescriptionBack.{fields-append, options-append}
use Rattle.message_writers.specs.Parts.{front_bits, fields_size, fields_answers, options_size, options_answers, first_options, last_options}

-- ## up to the O-bit

option-length : (w : ℕ) (p : Bool) (v : ℕ) → length (option_bits (digits w) (held p v)) ≡ cond p w 0
option-length w true v = length_digits w v
option-length w false v = refl

fields-length : (fs : List Field) (vs : Fields fs) (xs : Bits) → length (fields_bits fs vs xs) ≡ fields_size fs vs + length xs
unfolding fields_bits fields_size
fields-length [] vs xs = omega arith
fields-length (number w ∷ fs) vs xs =
    omega (arith, length-append (digits w vs.0) (fields_bits fs vs.1 xs), length_digits w vs.0, fields-length fs vs.1 xs)
fields-length (switched w ∷ fs) vs xs =
    let o : Bits = option_bits (digits w) (in_u64 vs.0.1) in
    omega (
      arith,
      length-append (digits flag_width vs.0.0) (o ++ fields_bits fs vs.1 xs),
      length_digits flag_width vs.0.0,
      length-append o (fields_bits fs vs.1 xs),
      option-length w vs.0.1.present vs.0.1.value,
      fields-length fs vs.1 xs,
    )

pub front_length : (d : Description) (vs : Fields d.fields) (o : Bool) → length (front_bits d vs o) ≡ pdu_type_width + (fields_size d.fields vs + flag_width)
front_length d vs o =
    omega (
      arith,
      length-append (digits pdu_type_width d.type) (fields_bits d.fields vs (digits flag_width (bit o))),
      length_digits pdu_type_width d.type,
      fields-length d.fields vs (digits flag_width (bit o)),
      length_digits flag_width (bit o),
    )

-- behind the O-bit what it announces
pub front-announced : (d : Description) (vs : Fields d.fields) (o : Bool) (xs : Bits) → front_bits d vs o ++ cond o xs [] ≡ head_bits d vs o xs
unfolding head_bits
front-announced d vs o xs =
    append_assoc (digits pdu_type_width d.type) (fields_bits d.fields vs (digits flag_width (bit o))) (cond o xs [])
    ∙ ap (λ (ys : Bits). digits pdu_type_width d.type ++ ys) (fields-append d.fields vs (digits flag_width (bit o)) (cond o xs []))

-- questions 8 and 9 alone concern the fields
abbrev pub of_fields : Question → Bool
of_fields fits = true
of_fields ciphered = true
of_fields q = false

field-unasked : (f : Field) (v : FieldValue f) (q : Question) → of_fields q ≡ false → field_asked f v q ≡ true
field-unasked (number w) v fits e = never (sym e)
field-unasked (number w) v ciphered e = never (sym e)
field-unasked (number w) v attached e = refl
field-unasked (number w) v formed e = refl
field-unasked (number w) v alive e = refl
field-unasked (number w) v saving e = refl
field-unasked (number w) v type3_only e = refl
field-unasked (number w) v short e = refl
field-unasked (switched w) v fits e = never (sym e)
field-unasked (switched w) v ciphered e = never (sym e)
field-unasked (switched w) v attached e = refl
field-unasked (switched w) v formed e = refl
field-unasked (switched w) v alive e = refl
field-unasked (switched w) v saving e = refl
field-unasked (switched w) v type3_only e = refl
field-unasked (switched w) v short e = refl

pub fields-unasked : (fs : List Field) (vs : Fields fs) (q : Question) → of_fields q ≡ false → fields_asked fs vs q ≡ true
unfolding fields_asked
fields-unasked [] vs q e = refl
fields-unasked (f ∷ fs) vs q e = rw (field-unasked f vs.0 q e) (fields-unasked fs vs.1 q e)

-- ## the type 2 elements

type2-length : (c : Type2) → Sound c → (o : Option c.Value) → length (type2_bits c.bits o) ≡ flag_width + cond (is_some o) c.width 0
type2-length c s None = omega (arith, length-append (digits flag_width 0) [], length_digits flag_width 0)
type2-length c s (Some v) = omega (arith, length-append (digits flag_width 1) (c.bits v), length_digits flag_width 1, s.wide v)

pub options-length : (cs : List Type2) → AllSound cs → (os : Options cs) → length (options_bits cs os []) ≡ options_size cs os
unfolding options_bits options_size
options-length [] s os = refl
options-length (c ∷ cs) s os =
    omega (arith, length-append (type2_bits c.bits (c.held os.0)) (options_bits cs os.1 []), type2-length c s.0 (c.held os.0), options-length cs s.1 os.1)

-- before others
pub options-before : (cs : List Type2) (os : Options cs) (xs : Bits) → options_bits cs os xs ≡ options_bits cs os [] ++ xs
options-before cs os xs = sym (options-append cs os [] xs)

-- in two fields
options-parted : (n : ℕ) (cs : List Type2) (os : Options cs) → first_options n cs os ++ last_options n cs os ≡ options_bits cs os []
unfolding options_bits
options-parted zero cs os = refl
options-parted (suc n) [] os = refl
options-parted (suc n) (c ∷ cs) os =
    append_assoc (type2_bits c.bits (c.held os.0)) (first_options n cs os.1) (last_options n cs os.1)
    ∙ ap (λ (xs : Bits). type2_bits c.bits (c.held os.0) ++ xs) (options-parted n cs os.1)

pub two-joined : (n : ℕ) (cs : List Type2) (os : Options cs) → joined (first_options n cs os ∷ last_options n cs os ∷ []) ≡ options_bits cs os []
unfolding joined
two-joined n cs os = ap (λ (xs : Bits). first_options n cs os ++ xs) (append-nil (last_options n cs os)) ∙ options-parted n cs os

-- where a question does not concern what may be absent
pub option-unasked : {A : Type 0} (test : A → Bool) (o : Option A) → ((a : A) → test a ≡ true) → option_all test o ≡ true
option-unasked test None h = refl
option-unasked test (Some a) h = h a

pub options-unasked : (cs : List Type2) → AllSound cs → (os : Options cs) (q : Question) → of_options q ≡ false → options_asked cs os q ≡ true
unfolding options_asked
options-unasked [] s os q e = refl
options-unasked (c ∷ cs) s os q e =
    rw (option-unasked (λ v. c.asked v q) (c.held os.0) (λ v. s.0.unasked v q e)) (options-unasked cs s.1 os.1 q e)

-- where none is present
pub none_asked : {A : Type 0} (test : A → Bool) (o : Option A) → is_some o ≡ false → option_all test o ≡ true
none_asked test None e = refl
none_asked test (Some a) e = never (sym e)

pub no_options-asked : (cs : List Type2) (os : Options cs) → any_option cs os ≡ false → (q : Question) → options_asked cs os q ≡ true
unfolding any_option options_asked
no_options-asked [] os e q = refl
no_options-asked (c ∷ cs) os e q =
    let x = neither (is_some (c.held os.0)) (any_option cs os.1) e in
    rw (none_asked (λ v. c.asked v q) (c.held os.0) x.0) (no_options-asked cs os.1 x.1 q)

pub cond-most : (p : Bool) (w : ℕ) → cond p w 0 ≤ w
cond-most true w = omega arith
cond-most false w = omega arith

-- how many bits each of two fields has at most
abbrev pub first_width : ℕ → List Type2 → ℕ
first_width zero cs = 0
first_width (suc n) [] = 0
first_width (suc n) (c ∷ cs) = flag_width + c.width + first_width n cs

abbrev pub last_width : ℕ → List Type2 → ℕ
last_width zero [] = 0
last_width zero (c ∷ cs) = flag_width + c.width + last_width zero cs
last_width (suc n) [] = 0
last_width (suc n) (c ∷ cs) = last_width n cs

pub first-most : (n : ℕ) (cs : List Type2) → AllSound cs → (os : Options cs) → length (first_options n cs os) ≤ first_width n cs
first-most zero cs s os = omega arith
first-most (suc n) [] s os = omega arith
first-most (suc n) (c ∷ cs) s os =
    omega (
      arith,
      length-append (type2_bits c.bits (c.held os.0)) (first_options n cs os.1),
      type2-length c s.0 (c.held os.0),
      cond-most (is_some (c.held os.0)) c.width,
      first-most n cs s.1 os.1,
    )

pub last-most : (n : ℕ) (cs : List Type2) → AllSound cs → (os : Options cs) → length (last_options n cs os) ≤ last_width n cs
unfolding options_bits
last-most zero [] s os = omega arith
last-most zero (c ∷ cs) s os =
    omega (
      arith,
      length-append (type2_bits c.bits (c.held os.0)) (options_bits cs os.1 []),
      type2-length c s.0 (c.held os.0),
      cond-most (is_some (c.held os.0)) c.width,
      last-most zero cs s.1 os.1,
    )
last-most (suc n) [] s os = omega arith
last-most (suc n) (c ∷ cs) s os = last-most n cs s.1 os.1

-- ## presence

pub slot-present : {A B : Type 0} (f : A → B) (p : Bool) (a : A) → is_some (option_map f (held p a)) ≡ p
slot-present f true a = refl
slot-present f false a = refl

-- what holds the bits xs holds them by another name
pub holds-as : {d : Digits} {xs ys : Bits} → Holds d xs → xs ≡ ys → Holds d ys
holds-as h e = rw (← e) h

-- ## what the code finds, answer by answer

pub fields_are : (d : Description) (vs : Fields d.fields) {f c : Bool} {n : ℕ} → f ≡ fields_asked d.fields vs fits → c ≡ fields_asked d.fields vs ciphered
    → n ≡ (fields_answers d vs).size → record { fits = f; ciphered = c; size = n } ≡ fields_answers d vs
fields_are d vs f c n = λ i. record { fits = f i; ciphered = c i; size = n i }

pub options_are : (cs : List Type2) (os : Options cs) {f a s : Bool} {n : ℕ} → f ≡ options_asked cs os fits → a ≡ options_asked cs os alive → s ≡ options_asked cs os saving
    → n ≡ options_size cs os → record { fits = f; alive = a; saving = s; size = n } ≡ options_answers cs os
options_are cs os f a s n = λ i. record { fits = f i; alive = a i; saving = s i; size = n i }

pub all_true : {A : Type 0} (o : Option A) → option_all (λ a. true) o ≡ true
all_true o = option-unasked (λ a. true) o (λ a. refl)

-- ## the LA

-- an LA, and behind it one bit more: twice the LA
pub la_bits : (o : OptionalU64) → type2_bits (digits la_value_width) (in_u64 o) ++ option_bits (digits flag_width) (held o.present 0) ≡ type2_bits la.bits (in_u64 o)
la_bits o = go o.present
  where
    twice : (v : ℕ) → digits la_value_width v ++ digits flag_width 0 ≡ la.bits v
    twice v =
        let h : (2 * v) / 2 ^ 1 ≡ v = omega arith in
        let m : 2 * v ≡ v * 2 ^ 1 + 0 = omega arith in
        let e : digits 1 (2 * v) ≡ digits 1 0 = ap (digits 1) m ∙ digits-add 1 v 0 in
        sym (digits_append 14 1 (2 * v) ∙ rw (h, e))

    go : (p : Bool) → type2_bits (digits la_value_width) (held p o.value) ++ option_bits (digits flag_width) (held p 0) ≡ type2_bits la.bits (held p o.value)
    go true = append_assoc (digits flag_width 1) (digits la_value_width o.value) (digits flag_width 0) ∙ ap (λ (xs : Bits). digits flag_width 1 ++ xs) (twice o.value)
    go false = append-nil (digits flag_width 0 ++ [])
