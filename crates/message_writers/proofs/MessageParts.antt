-- A MESSAGE IN ITS PARTS, whatever its description: its bits, what is asked of it, and the room that each part has.
use Rattle.std.specs.Prelude.{ℕ, ◌+◌, ◌-◌, ◌≤◌, ◌≡◌, refl, Bool, true, false, ◌&&◌, [], ◌∷◌, ◌++◌, length}
use Rattle.std.proofs.Common.{arith, sym, ap, ◌∙◌, append-nil, length-append}
use Rattle.std.proofs.Math.Bool.{and-true}
use Rattle.bits.specs.Bits.{Bits}
use Rattle.bits.specs.Written.{joined}
use Rattle.elements.proofs.NumbersLaws.{both, neither}
use Rattle.messages.specs.Head.{any_present}
use Rattle.messages.specs.Questions.{Question, fits, ciphered, attached, formed, alive, saving, type3_only, short}
use Rattle.messages.specs.Description.{Description, Values, elements_of, any_option, slots_bits, options_bits, more, bits, fields_asked, options_asked, slots_asked, asked}
use Rattle.messages.proofs.DescriptionLaws.{AllSound}
use Rattle.messages.proofs.RoundTrip.{Passed}
use Rattle.message_writers.specs.Parts.{front_bits, fields_answers, options_answers, elements_answers, elements_in}
use Rattle.message_writers.specs.declared.questions.FieldsAsked.{FieldsAsked}
use Rattle.message_writers.specs.declared.questions.OptionsAsked.{OptionsAsked}
use Rattle.message_writers.specs.Writes.{as_asked}
use Rattle.message_writers.specs.declared.questions.Answers.{Answers}
use Rattle.message_writers.specs.declared.questions.ElementsAsked.{ElementsAsked}
use Rattle.message_writers.proofs.PartsLaws.{front_length, front-announced, fields-unasked, options-length, options-before, options-unasked, no_options-asked}
use Rattle.message_writers.proofs.SlotsAsked.{slots-fit, slots-one, slots-listed, slots-type3_only, slots-short, slots-unasked, no_slots-asked, slots-size}
use Rattle.message_writers.proofs.WritesLaws.{Answered}

module _ (d : Description) (sound : AllSound d.options) (v : Values d) where
  abbrev fronted : Bool → Bits
  fronted = front_bits d v.fields

  abbrev optional : Bits
  optional = options_bits d.options v.options []

  abbrev listed : Bits
  listed = elements_in d v

  abbrev own : FieldsAsked
  own = fields_answers d v.fields

  abbrev others : OptionsAsked
  others = options_answers d.options v.options

  -- ## its bits

  pub bits-more : more d v ≡ true → joined (fronted true ∷ (optional ∷ (listed ∷ []))) ≡ bits d v
  unfolding joined bits
  bits-more e =
      rw (append-nil listed, ← options-before d.options v.options (slots_bits d.table v.slots))
      (front-announced d v.fields true (options_bits d.options v.options (slots_bits d.table v.slots)) ∙ rw e)

  pub bits-alone : more d v ≡ false → joined (fronted false ∷ []) ≡ bits d v
  unfolding joined bits
  bits-alone e = front-announced d v.fields false (options_bits d.options v.options (slots_bits d.table v.slots)) ∙ rw e

  -- ## what is asked

  abbrev f : Question → Bool
  f q = fields_asked d.fields v.fields q

  abbrev o : Question → Bool
  o q = options_asked d.options v.options q

  abbrev s : Question → Bool
  s q = slots_asked d.table v.slots q

  abbrev e : ElementsAsked
  e = (elements_answers d.table v.slots).asked

  -- the code's answers, with something behind the O-bit
  abbrev pub answers_more : Answers
  answers_more = record {
    fits = own.fits && (others.fits && e.fits);
    ciphered = own.ciphered;
    attached = e.one;
    formed = e.listed;
    alive = others.alive;
    saving = others.saving;
    type3_only = e.type3_only;
    short = e.short;
    size = own.size + (others.size + (e.size + 1));
  }

  more-is : (q : Question) → as_asked answers_more q ≡ asked d v q
  unfolding asked
  more-is fits = rw (slots-fit d.table v.slots)
  more-is ciphered =
      rw (options-unasked d.options sound v.options ciphered refl, slots-unasked d.table v.slots ciphered refl) (sym (and-true (f ciphered)))
  more-is attached =
      rw (fields-unasked d.fields v.fields attached refl, options-unasked d.options sound v.options attached refl) (slots-one d.table v.slots)
  more-is formed =
      rw (fields-unasked d.fields v.fields formed refl, options-unasked d.options sound v.options formed refl) (slots-listed d.table v.slots)
  more-is alive = rw (fields-unasked d.fields v.fields alive refl, slots-unasked d.table v.slots alive refl) (sym (and-true (o alive)))
  more-is saving = rw (fields-unasked d.fields v.fields saving refl, slots-unasked d.table v.slots saving refl) (sym (and-true (o saving)))
  more-is type3_only =
      rw (fields-unasked d.fields v.fields type3_only refl, options-unasked d.options sound v.options type3_only refl) (slots-type3_only d.table v.slots)
  more-is short =
      rw (fields-unasked d.fields v.fields short refl, options-unasked d.options sound v.options short refl) (slots-short d.table v.slots)

  -- what is asked of the listed elements, of the answers about the whole
  slots-yes : (q : Question) → asked d v q ≡ true → s q ≡ true
  unfolding asked
  slots-yes q y = (both (o q) (s q) (both (f q) (o q && s q) y).1).1

  -- the lengths of the three parts
  pub record Lengths : Type 0 where
    pub front : length (fronted true) ≡ own.size
    pub options : length optional ≡ others.size
    pub elements : length listed ≡ e.size + 1
    pub whole : length (bits d v) ≡ length (fronted true) + (length optional + length listed)

  pub lengths : more d v ≡ true → asked d v fits ≡ true → asked d v type3_only ≡ true → Lengths
  unfolding joined
  lengths announced f t = record {
    front = front_length d v.fields true;
    options = options-length d.options sound v.options;
    elements = slots-size d.table v.slots (slots-yes fits f) (slots-yes type3_only t);
    whole =
        omega (
          arith,
          ap length (bits-more announced),
          length-append (fronted true) (optional ++ (listed ++ [])),
          length-append optional (listed ++ []),
          length-append listed [],
        );
  }

  -- THE ANSWERS are those about the message
  pub more_answered : more d v ≡ true → Answered (asked d v) (bits d v) answers_more
  more_answered announced = record {
    is = more-is;
    size = λ f t. let l = lengths announced f t in omega (arith, l.front, l.options, l.elements, l.whole);
  }

  -- where the message passes, with n bits left: the room for each part, and what the listed elements passed
  pub record Rooms (n : ℕ) : Type 0 where
    pub front : length (fronted true) ≤ n
    pub options : length optional ≤ n - length (fronted true)
    pub elements : length listed ≤ n - length (fronted true) - length optional
    pub fit : s fits ≡ true
    pub only : s type3_only ≡ true

  pub rooms : {n : ℕ} → more d v ≡ true → Passed (asked d v) (length (bits d v)) n → Rooms n
  rooms announced p =
      let l = lengths announced (p.asked fits) (p.asked type3_only) in
      let enough = p.enough in
      record {
        front = omega (arith, l.whole, enough);
        options = omega (arith, l.whole, enough);
        elements = omega (arith, l.whole, enough);
        fit = slots-yes fits (p.asked fits);
        only = slots-yes type3_only (p.asked type3_only);
      }

  -- the same without anything behind it
  abbrev pub answers_alone : Answers
  answers_alone = record {
    fits = own.fits;
    ciphered = own.ciphered;
    attached = true;
    formed = true;
    alive = true;
    saving = true;
    type3_only = true;
    short = true;
    size = own.size;
  }

  module _ (none : more d v ≡ false) where
    others-yes : (q : Question) → (o q && s q) ≡ true
    unfolding more
    others-yes q =
        let x = neither (any_option d.options v.options) (any_present (elements_of d.table v.slots)) none in
        rw (no_options-asked d.options v.options x.0 q) (no_slots-asked d.table v.slots x.1 q)

    alone-is : (q : Question) → as_asked answers_alone q ≡ asked d v q
    unfolding asked
    alone-is fits = rw (others-yes fits) (sym (and-true (f fits)))
    alone-is ciphered = rw (others-yes ciphered) (sym (and-true (f ciphered)))
    alone-is attached = rw (others-yes attached, fields-unasked d.fields v.fields attached refl)
    alone-is formed = rw (others-yes formed, fields-unasked d.fields v.fields formed refl)
    alone-is alive = rw (others-yes alive, fields-unasked d.fields v.fields alive refl)
    alone-is saving = rw (others-yes saving, fields-unasked d.fields v.fields saving refl)
    alone-is type3_only = rw (others-yes type3_only, fields-unasked d.fields v.fields type3_only refl)
    alone-is short = rw (others-yes short, fields-unasked d.fields v.fields short refl)

    pub alone_answered : Answered (asked d v) (bits d v) answers_alone
    unfolding joined
    alone_answered = record {
      is = alone-is;
      size = λ f t. sym (ap length (sym (bits-alone none)) ∙ length-append (fronted false) [] ∙ omega (arith, front_length d v.fields false));
    }
