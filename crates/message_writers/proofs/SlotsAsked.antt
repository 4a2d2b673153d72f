-- Laws of the listed elements as they are asked and written.
use Rattle.std.specs.Prelude.{ℕ, ◌+◌, ◌≡◌, refl, Bool, true, false, not, cond, ◌&&◌, List, [], ◌∷◌, ◌++◌, length, is_some, option_map, Option, None, Some}
use Rattle.std.proofs.Common.{arith, sym, ap, ap₂, ◌∙◌, append-nil, length-append}
use Rattle.std.proofs.Math.Bool.{and-true, and_assoc}
use Rattle.std.proofs.lemmas.Bool.{not-true}
use Rattle.bits.specs.Bits.{Bits, digits}
use Rattle.bits.specs.BitsLaws.{length_digits}
use Rattle.bits.specs.Written.{joined}
use Rattle.bits.specs.PutsLaws.{joined-append}
use Rattle.elements.specs.Numbers.{held, option_bits, option_all, in_width}
use Rattle.elements.proofs.NumbersLaws.{never, both, neither}
use Rattle.elements.specs.Table.{mbit_width, length_width}
use Rattle.elements.specs.Generics.{type3_bits}
use Rattle.elements.specs.TableWritten.{element_bits, slot_bits, table_bits}
use Rattle.elements.specs.Lists.{length_fits, downlinks, list_bits, list_fits, list_held, list_one, list_listed}
use Rattle.elements.specs.Locations.{location_demand_bits, location_accept_bits}
use Rattle.elements.specs.Kinds.{row, Value, of_kind, identifier_of, content_bits, Stored, held_in, slot_of}
use Rattle.elements.specs.declared.typed_pdu_fields.Kind.{Kind}
use Rattle.elements.specs.declared.typed_pdu_fields.Kind.TheVariants as K
use Rattle.elements.specs.declared.typed_pdu_fields.Row.{Row}
use Rattle.elements.specs.declared.typed_pdu_fields.OptionalType4.{OptionalType4}
use Rattle.elements.specs.declared.group_identity_downlink.OptionalDownlinks.{OptionalDownlinks}
use Rattle.element_writers.specs.WrittenElements.{optional_bits, element-length, type3-joined, type3_size_lem, outer_list-joined}
use Rattle.element_writers.specs.LocationAsked.{location_demand-joined, location_accept-joined}
use Rattle.messages.specs.Head.{any_present}
use Rattle.messages.specs.Questions.{Question, fits, ciphered, attached, formed, alive, saving, type3_only, short}
use Rattle.messages.specs.Description.{Slots, elements_of, slots_bits, is_type3_only, kind_asked, slots_asked}
use Rattle.message_writers.specs.declared.questions.ElementsAsked.{ElementsAsked}
use Rattle.message_writers.specs.Parts.{asked_both, asked_none, kind_answers, kind_parts, asked_behind, slots_parts}
use Rattle.message_writers.proofs.PartsLaws.{option-unasked, none_asked}

-- ## what is asked of one of them

-- a list that is absent passes a test of lists
list-held : (test : OptionalDownlinks → Bool) (l : OptionalDownlinks) → (l.present ≡ false → test l ≡ true) → test l ≡ option_all test (list_held downlinks l)
list-held test l h = go l.present h
  where
    go : (p : Bool) → (p ≡ false → test l ≡ true) → test l ≡ option_all test (held p l)
    go true h = refl
    go false h = h refl

list-fits : (l : OptionalDownlinks) → list_fits downlinks l ≡ option_all (list_fits downlinks) (list_held downlinks l)
unfolding list_fits
list-fits l = list-held (list_fits downlinks) l (λ e. rw e)

list-one : (l : OptionalDownlinks) → list_one downlinks l ≡ option_all (list_one downlinks) (list_held downlinks l)
unfolding list_one
list-one l = list-held (list_one downlinks) l (λ e. rw e)

list-listed : (l : OptionalDownlinks) → list_listed downlinks l ≡ option_all (list_listed downlinks) (list_held downlinks l)
unfolding list_listed
list-listed l = list-held (list_listed downlinks) l (λ e. rw e)

list-short : (l : OptionalDownlinks) → in_width length_width (length (option_bits (list_bits downlinks) (list_held downlinks l))) ≡ option_all (λ l. length_fits (list_bits downlinks l)) (list_held downlinks l)
list-short l = go l.present
  where
    go : (p : Bool) → in_width length_width (length (option_bits (list_bits downlinks) (held p l))) ≡ option_all (λ l. length_fits (list_bits downlinks l)) (held p l)
    go true = refl
    go false = refl

-- a test that holds of everything
all_true : {A : Type 0} (o : Option A) → true ≡ option_all (λ a. true) o
all_true o = sym (option-unasked (λ a. true) o (λ a. refl))

type4-absent : (s : OptionalType4) → not s.present ≡ option_all (λ v. false) (held_in K.Type4 s)
type4-absent s = go s.present
  where
    go : (p : Bool) → not p ≡ option_all (λ v. false) (held p s.value)
    go true = refl
    go false = refl

kind-fits : (k : Kind) (s : Stored k) → (kind_answers k s).fits ≡ option_all (λ v. kind_asked k v fits) (held_in k s)
kind-fits K.Type3 s = refl
kind-fits K.Type4 s = refl
kind-fits K.LocationDemand s = refl
kind-fits K.LocationAccept s = refl
kind-fits K.Downlinks s = list-fits s

kind-one : (k : Kind) (s : Stored k) → (kind_answers k s).one ≡ option_all (λ v. kind_asked k v attached) (held_in k s)
kind-one K.Type3 s = all_true (held_in K.Type3 s)
kind-one K.Type4 s = all_true (held_in K.Type4 s)
kind-one K.LocationDemand s = refl
kind-one K.LocationAccept s = refl
kind-one K.Downlinks s = list-one s

kind-listed : (k : Kind) (s : Stored k) → (kind_answers k s).listed ≡ option_all (λ v. kind_asked k v formed) (held_in k s)
kind-listed K.Type3 s = all_true (held_in K.Type3 s)
kind-listed K.Type4 s = all_true (held_in K.Type4 s)
kind-listed K.LocationDemand s = refl
kind-listed K.LocationAccept s = refl
kind-listed K.Downlinks s = list-listed s

kind-type3_only : (k : Kind) (s : Stored k) → (kind_answers k s).type3_only ≡ option_all (λ v. kind_asked k v type3_only) (held_in k s)
kind-type3_only K.Type3 s = all_true (held_in K.Type3 s)
kind-type3_only K.Type4 s = type4-absent s
kind-type3_only K.LocationDemand s = all_true (held_in K.LocationDemand s)
kind-type3_only K.LocationAccept s = all_true (held_in K.LocationAccept s)
kind-type3_only K.Downlinks s = all_true (held_in K.Downlinks s)

kind-short : (k : Kind) (s : Stored k) → (kind_answers k s).short ≡ option_all (λ v. kind_asked k v short) (held_in k s)
kind-short K.Type3 s = all_true (held_in K.Type3 s)
kind-short K.Type4 s = all_true (held_in K.Type4 s)
kind-short K.LocationDemand s = refl
kind-short K.LocationAccept s = refl
kind-short K.Downlinks s = list-short s

-- ## and of all of them

-- the code's answer p is that to question q
module _ (p : ElementsAsked → Bool) (q : Question) (both_of : (x y : ElementsAsked) → p (asked_both x y) ≡ (p x && p y))
    (kind : (k : Kind) (s : Stored k) → p (kind_answers k s) ≡ option_all (λ v. kind_asked k v q) (held_in k s)) where
  behind-asked : (a : ElementsAsked) (rs : List Row) (ss : Slots rs) → p (asked_behind a rs ss) ≡ (p a && slots_asked rs ss q)
  unfolding slots_asked
  behind-asked a [] ss = sym (and-true (p a))
  behind-asked a (r ∷ rs) ss =
      behind-asked (asked_both a (kind_answers r.kind ss.0)) rs ss.1
      ∙ rw (both_of a (kind_answers r.kind ss.0), kind r.kind ss.0) (and_assoc (p a) (option_all (λ v. kind_asked r.kind v q) (held_in r.kind ss.0)) (slots_asked rs ss.1 q))

module _ (rs : List Row) (ss : Slots rs) where
  abbrev answers : ElementsAsked
  answers = asked_behind asked_none rs ss

  pub slots-fit : answers.fits ≡ slots_asked rs ss fits
  slots-fit = behind-asked (λ a. a.fits) fits (λ x y. refl) kind-fits asked_none rs ss

  pub slots-one : answers.one ≡ slots_asked rs ss attached
  slots-one = behind-asked (λ a. a.one) attached (λ x y. refl) kind-one asked_none rs ss

  pub slots-listed : answers.listed ≡ slots_asked rs ss formed
  slots-listed = behind-asked (λ a. a.listed) formed (λ x y. refl) kind-listed asked_none rs ss

  pub slots-type3_only : answers.type3_only ≡ slots_asked rs ss type3_only
  slots-type3_only = behind-asked (λ a. a.type3_only) type3_only (λ x y. refl) kind-type3_only asked_none rs ss

  pub slots-short : answers.short ≡ slots_asked rs ss short
  slots-short = behind-asked (λ a. a.short) short (λ x y. refl) kind-short asked_none rs ss

-- one slot after the other
abbrev pub EachAsked : (rs : List Row) → Slots rs → Question → Type 0
EachAsked [] ss q = Unit
EachAsked (r ∷ rs) ss q = (option_all (λ v. kind_asked r.kind v q) (held_in r.kind ss.0) ≡ true) × EachAsked rs ss.1 q

pub each_asked : (rs : List Row) (ss : Slots rs) (q : Question) → slots_asked rs ss q ≡ true → EachAsked rs ss q
unfolding slots_asked
each_asked [] ss q y = tt
each_asked (r ∷ rs) ss q y = let x = both (option_all (λ v. kind_asked r.kind v q) (held_in r.kind ss.0)) _ y in (x.0, each_asked rs ss.1 q x.1)

-- questions 9, 12 and 13 do not concern them
abbrev pub of_slots : Question → Bool
of_slots ciphered = false
of_slots alive = false
of_slots saving = false
of_slots q = true

kind-unasked : (k : Kind) (v : Value k) (q : Question) → of_slots q ≡ false → kind_asked k v q ≡ true
kind-unasked k v fits e = never (sym e)
kind-unasked k v ciphered e = refl
kind-unasked k v attached e = never (sym e)
kind-unasked k v formed e = never (sym e)
kind-unasked k v alive e = refl
kind-unasked k v saving e = refl
kind-unasked k v type3_only e = never (sym e)
kind-unasked k v short e = never (sym e)

pub slots-unasked : (rs : List Row) (ss : Slots rs) (q : Question) → of_slots q ≡ false → slots_asked rs ss q ≡ true
unfolding slots_asked
slots-unasked [] ss q e = refl
slots-unasked (r ∷ rs) ss q e =
    rw (option-unasked (λ v. kind_asked r.kind v q) (held_in r.kind ss.0) (λ v. kind-unasked r.kind v q e)) (slots-unasked rs ss.1 q e)

-- where none is present
slot-none : {A B : Type 0} (f : A → B) (o : Option A) → is_some (option_map f o) ≡ false → is_some o ≡ false
slot-none f None e = refl
slot-none f (Some a) e = never (sym e)

pub no_slots-asked : (rs : List Row) (ss : Slots rs) → any_present (elements_of rs ss) ≡ false → (q : Question) → slots_asked rs ss q ≡ true
unfolding any_present slots_asked
no_slots-asked [] ss e q = refl
no_slots-asked (r ∷ rs) ss e q =
    let x = neither (is_some (slot_of r.kind ss.0)) (any_present (elements_of rs ss.1)) e in
    rw (none_asked (λ v. kind_asked r.kind v q) (held_in r.kind ss.0) (slot-none (of_kind r.kind) (held_in r.kind ss.0) x.0)) (no_slots-asked rs ss.1 x.1 q)

-- ## their bits

-- a slot's, by its kind
kind-slot : (i : ℕ) (k : Kind) (bits : Value k → Bits) → ((v : Value k) → content_bits (row i k) (of_kind k v) ≡ bits v) → (o : Option (Value k))
    → slot_bits identifier_of content_bits (row i k) (option_map (of_kind k) o) ≡ optional_bits i bits o
kind-slot i k bits same None = refl
kind-slot i k bits same (Some v) = ap (element_bits i) (same v)

-- THE PARTS of an element are its bits
kind-joined : (i : ℕ) (k : Kind) (s : Stored k) → option_all (λ v. is_type3_only k) (held_in k s) ≡ true
    → joined (kind_parts k i s) ≡ slot_bits identifier_of content_bits (row i k) (slot_of k s)
unfolding content_bits joined
kind-joined i K.Type3 s t = type3-joined i s ∙ sym (kind-slot i K.Type3 type3_bits (λ v. refl) (held_in K.Type3 s))
kind-joined i K.Type4 s t = let e : s.present ≡ false = not-true _ (type4-absent s ∙ t) in rw e
kind-joined i K.LocationDemand s t =
    location_demand-joined i s refl ∙ sym (kind-slot i K.LocationDemand location_demand_bits (λ v. refl) (held_in K.LocationDemand s))
kind-joined i K.LocationAccept s t =
    location_accept-joined i s refl ∙ sym (kind-slot i K.LocationAccept location_accept_bits (λ v. refl) (held_in K.LocationAccept s))
kind-joined i K.Downlinks s t = outer_list-joined i s refl ∙ sym (kind-slot i K.Downlinks (list_bits downlinks) (λ v. refl) (held_in K.Downlinks s))

-- where it fits they are as many as the code counts
optional-length : {A : Type 0} (i : ℕ) (bits : A → Bits) (p : Bool) (a : A) → length (optional_bits i bits (held p a)) ≡ cond p (16 + length (option_bits bits (held p a))) 0
optional-length i bits true a = element-length i (bits a)
optional-length i bits false a = refl

kind-length : (i : ℕ) (k : Kind) (s : Stored k) → option_all (λ v. kind_asked k v fits) (held_in k s) ≡ true → option_all (λ v. is_type3_only k) (held_in k s) ≡ true
    → length (slot_bits identifier_of content_bits (row i k) (slot_of k s)) ≡ (kind_answers k s).size
unfolding content_bits
kind-length i K.Type3 s f t = ap length (kind-slot i K.Type3 type3_bits (λ v. refl) (held_in K.Type3 s)) ∙ sym (type3_size_lem i s f)
kind-length i K.Type4 s f t = let e : s.present ≡ false = not-true _ (type4-absent s ∙ t) in rw e
kind-length i K.LocationDemand s f t =
    ap length (kind-slot i K.LocationDemand location_demand_bits (λ v. refl) (held_in K.LocationDemand s)) ∙ optional-length i location_demand_bits s.present s.value
kind-length i K.LocationAccept s f t =
    ap length (kind-slot i K.LocationAccept location_accept_bits (λ v. refl) (held_in K.LocationAccept s)) ∙ optional-length i location_accept_bits s.present s.value
kind-length i K.Downlinks s f t =
    ap length (kind-slot i K.Downlinks (list_bits downlinks) (λ v. refl) (held_in K.Downlinks s)) ∙ optional-length i (list_bits downlinks) s.present s

pub slots-joined : (rs : List Row) (ss : Slots rs) → slots_asked rs ss type3_only ≡ true → joined (slots_parts rs ss) ≡ slots_bits rs ss
unfolding slots_asked table_bits joined
slots-joined [] ss t = append-nil (digits mbit_width 0)
slots-joined (r ∷ rs) ss t =
    let x = both (option_all (λ v. is_type3_only r.kind) (held_in r.kind ss.0)) _ t in
    joined-append (kind_parts r.kind r.identifier ss.0) (slots_parts rs ss.1)
    ∙ ap₂ (λ (xs ys : Bits). xs ++ ys) (kind-joined r.identifier r.kind ss.0 x.0) (slots-joined rs ss.1 x.1)

behind-size : (a : ElementsAsked) (rs : List Row) (ss : Slots rs) → slots_asked rs ss fits ≡ true → slots_asked rs ss type3_only ≡ true
    → a.size + length (slots_bits rs ss) ≡ (asked_behind a rs ss).size + 1
unfolding slots_asked table_bits
behind-size a [] ss f t = omega (arith, length_digits mbit_width 0)
behind-size a (r ∷ rs) ss f t =
    let x = both (option_all (λ v. kind_asked r.kind v fits) (held_in r.kind ss.0)) _ f in
    let y = both (option_all (λ v. is_type3_only r.kind) (held_in r.kind ss.0)) _ t in
    omega (
      arith,
      length-append (slot_bits identifier_of content_bits r (slot_of r.kind ss.0)) (slots_bits rs ss.1),
      kind-length r.identifier r.kind ss.0 x.0 y.0,
      behind-size (asked_both a (kind_answers r.kind ss.0)) rs ss.1 x.1 y.1,
    )

-- and the closing M-bit is one more
pub slots-size : (rs : List Row) (ss : Slots rs) → slots_asked rs ss fits ≡ true → slots_asked rs ss type3_only ≡ true
    → length (slots_bits rs ss) ≡ (asked_behind asked_none rs ss).size + 1
slots-size rs ss f t = omega (arith, behind-size asked_none rs ss f t)
