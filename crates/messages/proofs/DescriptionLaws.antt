-- Laws of any description: what is asked of its type 2 elements; its head is local, and its layout passes the bits that the head reads.
use Rattle.std.specs.Prelude.{ℕ, ◌≡◌, refl, Bool, true, false, List, [], ◌∷◌, ◌++◌, length, eqb, Option, None, Some}
use Rattle.bits.specs.Bits.{Bits}
use Rattle.bits.specs.Reader.{Reader, got, field, pass, Local}
use Rattle.bits.specs.ReaderLaws.{local·rules, field-local, bind_local, optional-local, got-local, Follows, Passes, got_follows, by-pass, by-same, field-passes, optional_follows}
use Rattle.elements.specs.Numbers.{optional_number, flag_width, type2}
use Rattle.elements.proofs.Numbered.{Numbered, bind_numbered, got-numbered, field-numbered, unless-numbered, optional-numbered, type2-numbered}
use Rattle.bits.specs.PduParseError.{invalid_pdu_type}
use Rattle.std.proofs.Math.Logic.{inl, inr}
use Rattle.messages.specs.Head.{pdu_type_width, pdu_type, pass_if, pass_type2, layout_options}
use Rattle.messages.proofs.HeadLaws.{type_local, type_passes, type2-local, type2_follows, end_follows, layout_options-local, behind-local, behind_follows}
use Rattle.messages.specs.Questions.{Question, fits, alive, saving, type3_only, Asked}
use Rattle.messages.specs.Description.{Field, number, switched, Type2, Description, Fields, Options, read_fields, read_options, options_behind, read_head, pass_fields, widths, layout}
use Rattle.messages.specs.declared.Headed.{Headed}

-- each question is answered with yes
abbrev pub Yes : Asked → Type 0
Yes a = (q : Question) → a q ≡ true

-- reading back asks each of them but question 14: the bits of a generic element of type 4 read back too
abbrev pub of_reading : Question → Bool
of_reading type3_only = false
of_reading q = true

abbrev pub Readable : Asked → Type 0
Readable a = (q : Question) → of_reading q ≡ true → a q ≡ true

-- the questions that concern type 2 elements
abbrev pub of_options : Question → Bool
of_options fits = true
of_options alive = true
of_options saving = true
of_options q = false

-- A TYPE 2 ELEMENT IS SOUND
pub record Sound (c : Type2) : Type 0 where
  pub local : Local c.read
  -- it has its width, read and written
  pub passes : Passes c.width c.read
  pub wide : (v : c.Value) → length (c.bits v) ≡ c.width
  -- what was written is read back, in normal form
  pub back : (v : c.Value) → Readable (c.asked v) → (rest : Bits) → c.read (c.bits v ++ rest) ≡ got (c.normal v) rest
  -- what was read is its own normal form
  pub own : (bs : Bits) {v : c.Value} {rest : Bits} → c.read bs ≡ got v rest → c.normal v ≡ v
  -- values that are the same have one normal form, and a value is the same as its own
  pub same : (v w : c.Value) → c.Same v w → c.normal v ≡ c.normal w
  pub normal-same : (v : c.Value) → c.Same v (c.normal v)
  -- questions 8, 12 and 13 alone concern it
  pub unasked : (v : c.Value) (q : Question) → of_options q ≡ false → c.asked v q ≡ true
  -- it refuses with the members of the list
  pub numbered : Numbered c.read
  -- a record holds what it stores
  pub held : (o : Option c.Value) → c.held (c.stored o) ≡ o

abbrev pub AllSound : List Type2 → Type 0
AllSound [] = Unit
AllSound (c ∷ cs) = Sound c × AllSound cs

-- ## local

fields-local : {B : Type 0} (fs : List Field) (k : Fields fs → Reader B) → ((vs : Fields fs) → Local (k vs)) → Local (read_fields fs k)
unfolding read_fields
fields-local [] k l = l tt
fields-local (number w ∷ fs) k l = bind_local (field w) _ (field-local w) (λ v. fields-local fs _ (λ vs. l (v, vs)))
fields-local (switched w ∷ fs) k l =
    bind_local (field flag_width) _ (field-local flag_width) (λ v.
    bind_local (optional_number (eqb v 1) w) _ (optional-local Some None (eqb v 1) (field w) (field-local w)) (λ o. fields-local fs _ (λ vs. l (_, vs))))

options-local : {B : Type 0} (cs : List Type2) → AllSound cs → (k : Options cs → Reader B) → ((os : Options cs) → Local (k os)) → Local (read_options cs k)
unfolding read_options
options-local [] s k l = l tt
options-local (c ∷ cs) s k l = bind_local (type2 c.read) _ (type2-local c.read s.0.local) (λ o. options-local cs s.1 _ (λ os. l (c.stored o, os)))

pub behind_options-local : {T : Type 0} (cs : List Type2) → AllSound cs → (f : Options cs → T) (b : Bool) → Local (options_behind cs f b)
behind_options-local [] s f b = got-local (f tt)
behind_options-local (c ∷ cs) s f b = behind-local _ _ (options-local (c ∷ cs) s _ (λ os. got-local (f os))) b

module _ (d : Description) (s : AllSound d.options) {T H : Type 0} (f : Options d.options → T) (h : Fields d.fields → T → H) where
  pub head-local : Local (read_head d f h)
  unfolding read_head
  head-local =
      bind_local (pdu_type d.type) _ (type_local d.type) (λ z. fields-local d.fields _ (λ vs.
      bind_local (field flag_width) _ (field-local flag_width) (λ o.
      bind_local (options_behind d.options f (eqb o 1)) _ (behind_options-local d.options s f (eqb o 1)) (λ t. got-local _))))

pass_fields-local : {B : Type 0} (fs : List Field) (k : Reader B) → Local k → Local (pass_fields fs k)
unfolding pass_fields
pass_fields-local [] k l = l
pass_fields-local (number w ∷ fs) k l = bind_local (pass w) _ (search local·rules) (λ z. pass_fields-local fs k l)
pass_fields-local (switched w ∷ fs) k l =
    bind_local (field flag_width) _ (field-local flag_width) (λ v. bind_local (pass_if (eqb v 1) (pass w)) _ (search local·rules) (λ z. pass_fields-local fs k l))

pub layout-local : (d : Description) → Local (layout d)
unfolding layout
layout-local d = bind_local (pass pdu_type_width) _ (search local·rules) (λ z. pass_fields-local d.fields _ (layout_options-local (widths d.options)))

-- ## the layout passes what the head reads

fields_follow : {B C : Type 0} (fs : List Field) (k : Fields fs → Reader B) (w : Reader C) {g : B → C} → ((vs : Fields fs) → Follows (k vs) w g)
    → Follows (read_fields fs k) (pass_fields fs w) g
unfolding read_fields pass_fields
fields_follow [] k r l = l tt
fields_follow (number w ∷ fs) k r l = by-pass (field w) (pass w) _ _ (field-passes w) (λ v. fields_follow fs _ r (λ vs. l (v, vs)))
fields_follow (switched w ∷ fs) k r l =
    by-same (field flag_width) _ _ (λ v.
    by-pass (optional_number (eqb v 1) w) (pass_if (eqb v 1) (pass w)) _ _ (optional_follows Some None (eqb v 1) (field w) (pass w) (field-passes w))
    (λ o. fields_follow fs _ r (λ vs. l (_, vs))))

options_follow : {B : Type 0} (cs : List Type2) → AllSound cs → (k : Options cs → B) → Follows (read_options cs (λ os. got (k os))) (pass_type2 (widths cs)) (λ b. tt)
unfolding read_options widths
options_follow [] s k = end_follows (k tt)
options_follow (c ∷ cs) s k = type2_follows c.width (widths cs) c.read _ s.0.passes (λ o. options_follow cs s.1 (λ os. k (c.stored o, os)))

behind_options_follow : {T : Type 0} (cs : List Type2) → AllSound cs → (f : Options cs → T) (b : Bool)
    → Follows (options_behind cs f b) (pass_if b (pass_type2 (widths cs))) (λ t. tt)
unfolding widths pass_type2
behind_options_follow [] s f true = got_follows (f tt) _
behind_options_follow [] s f false = got_follows (f tt) _
behind_options_follow (c ∷ cs) s f b = behind_follows _ _ _ (options_follow (c ∷ cs) s f) b

module _ (d : Description) (s : AllSound d.options) {T H : Type 0} (f : Options d.options → T) (h : Fields d.fields → T → H) where
  pub head_follows : Follows (read_head d f h) (layout d) (λ (x : Headed H). eqb x.obit 1)
  unfolding read_head layout layout_options
  head_follows =
      by-pass (pdu_type d.type) (pass pdu_type_width) _ _ (type_passes d.type) (λ z. fields_follow d.fields _ _ (λ vs.
      by-same (field flag_width) _ _ (λ o.
      by-pass (options_behind d.options f (eqb o 1)) _ _ _ (behind_options_follow d.options s f (eqb o 1)) (λ t. got_follows _ _))))

-- ## refusals

type_numbered : (m : ℕ) → Numbered (pdu_type m)
unfolding pdu_type
type_numbered m = bind_numbered (field pdu_type_width) _ (field-numbered pdu_type_width) (λ t. unless-numbered (eqb t m) invalid_pdu_type (inr (inl refl)))

fields-numbered : {B : Type 0} (fs : List Field) (k : Fields fs → Reader B) → ((vs : Fields fs) → Numbered (k vs)) → Numbered (read_fields fs k)
unfolding read_fields
fields-numbered [] k l = l tt
fields-numbered (number w ∷ fs) k l = bind_numbered (field w) _ (field-numbered w) (λ v. fields-numbered fs _ (λ vs. l (v, vs)))
fields-numbered (switched w ∷ fs) k l =
    bind_numbered (field flag_width) _ (field-numbered flag_width) (λ v.
    bind_numbered (optional_number (eqb v 1) w) _ (optional-numbered Some None (eqb v 1) (field w) (field-numbered w)) (λ o. fields-numbered fs _ (λ vs. l (_, vs))))

options-numbered : {B : Type 0} (cs : List Type2) → AllSound cs → (k : Options cs → Reader B) → ((os : Options cs) → Numbered (k os)) → Numbered (read_options cs k)
unfolding read_options
options-numbered [] s k l = l tt
options-numbered (c ∷ cs) s k l = bind_numbered (type2 c.read) _ (type2-numbered c.read s.0.numbered) (λ o. options-numbered cs s.1 _ (λ os. l (c.stored o, os)))

behind_options-numbered : {T : Type 0} (cs : List Type2) → AllSound cs → (f : Options cs → T) (b : Bool) → Numbered (options_behind cs f b)
behind_options-numbered [] s f b = got-numbered (f tt)
behind_options-numbered (c ∷ cs) s f true = options-numbered (c ∷ cs) s _ (λ os. got-numbered (f os))
behind_options-numbered (c ∷ cs) s f false = got-numbered _

module _ (d : Description) (s : AllSound d.options) {T H : Type 0} (f : Options d.options → T) (h : Fields d.fields → T → H) where
  pub head-numbered : Numbered (read_head d f h)
  unfolding read_head
  head-numbered =
      bind_numbered (pdu_type d.type) _ (type_numbered d.type) (λ z. fields-numbered d.fields _ (λ vs.
      bind_numbered (field flag_width) _ (field-numbered flag_width) (λ o.
      bind_numbered (options_behind d.options f (eqb o 1)) _ (behind_options-numbered d.options s f (eqb o 1)) (λ t. got-numbered _))))
