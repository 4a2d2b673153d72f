-- Laws of any message from its description, whatever record holds it: demand 3 applies to it; what was written is read back, in normal form;
-- what was read is its own normal form; records that are the same have one.
use Rattle.std.specs.Prelude.{◌≡◌, refl, Bool, true, false, ◌++◌}
use Rattle.std.proofs.Common.{ap}
use Rattle.bits.specs.Bits.{Bits}
use Rattle.bits.specs.Reader.{got}
use Rattle.elements.specs.Numbers.{in_width}
use Rattle.elements.proofs.NumbersLaws.{both, neither, one_bit}
use Rattle.elements.specs.Table.{Counted, counted}
use Rattle.elements.proofs.TableBack.{distinct}
use Rattle.elements.specs.Kinds.{identifier_of, content, content_bits, element_normal}
use Rattle.messages.specs.Head.{pdu_type_width, any_present}
use Rattle.messages.specs.Format.{message}
use Rattle.messages.proofs.FormatLaws.{message-made, format_back}
use Rattle.messages.proofs.Demand3.{RegularHead}
use Rattle.messages.specs.Questions.{Question, fits}
use Rattle.messages.specs.Description.{Description, Fields, Options, Slots, Values, elements_of, any_option, slots_bits, more, bits, fields_asked, options_asked, slots_asked, asked, fields_normal, options_normal, normal, Same, Tie, made}
use Rattle.messages.specs.Calls.{format_by}
use Rattle.messages.proofs.DescriptionLaws.{of_reading, Readable, AllSound, head-local, layout-local, head_follows}
use Rattle.messages.proofs.DescriptionBack.{head-back, head-read, fields-same, fields_normal-same, options-same, options_normal-same}
use Rattle.messages.proofs.SlotsLaws.{FullSlots, slots-back, slots-normal, OwnSlots, scan_own, nothing_own, slots-same, slots_normal-same}

-- a question that a message answers with yes, each of its parts does
record YesOfParts (d : Description) (m : Values d) (q : Question) : Type 0 where
  fields : fields_asked d.fields m.fields q ≡ true
  options : options_asked d.options m.options q ≡ true
  slots : slots_asked d.table m.slots q ≡ true

yes-of_parts : (d : Description) (m : Values d) (q : Question) → asked d m q ≡ true → YesOfParts d m q
unfolding asked
yes-of_parts d m q y =
    let parts = both (fields_asked d.fields m.fields q) _ y in
    let others = both (options_asked d.options m.options q) (slots_asked d.table m.slots q) parts.1 in
    record { fields = parts.0; options = others.0; slots = others.1 }

module _ (d : Description) (s : AllSound d.options) where
  -- RECORDS THAT ARE THE SAME have one normal form
  pub normal-equal : (m n : Values d) → Same d m n → normal d m ≡ normal d n
  normal-equal m n e = λ i. record {
    fields = fields-same d.fields m.fields n.fields e.fields i;
    options = options-same d.options s m.options n.options e.options i;
    slots = slots-same d.table m.slots n.slots e.slots i;
  }

  -- A RECORD that passes question 8 IS THE SAME as its normal form
  pub normal_same : (m : Values d) → FullSlots d.table m.slots → asked d m fits ≡ true → Same d m (normal d m)
  normal_same m full y = record {
    fields = fields_normal-same d.fields m.fields;
    options = options_normal-same d.options s m.options;
    slots = slots_normal-same d.table m.slots full (yes-of_parts d m fits y).slots;
  }

  -- a record T of the code is made of the values, and V holds it and tells the values again
  module _ {R V : Type 0} (t : Tie d R) (hold : R → V) where
    -- DEMAND 3 APPLIES
    pub regular-head : RegularHead (format_by d t hold)
    regular-head = record {
      head-local = head-local d s t.options t.head;
      layout-local = layout-local d;
      head_follows = head_follows d s t.options t.head;
    }

    options-none : (m : Values d) → more d m ≡ false → any_option d.options m.options ≡ false
    unfolding more
    options-none m e = (neither (any_option d.options m.options) _ e).0

    slots-none : (m : Values d) → more d m ≡ false → any_present (elements_of d.table m.slots) ≡ false
    unfolding more
    slots-none m e = (neither (any_option d.options m.options) _ e).1

    -- WHAT WAS WRITTEN IS READ BACK, in normal form
    pub values-back : in_width pdu_type_width d.type ≡ true → distinct identifier_of d.table ≡ true → (m : Values d) → FullSlots d.table m.slots → Readable (asked d m)
        → (rest : Bits) → message identifier_of content (format_by d t hold) false (bits d m ++ rest) ≡ got (counted 0 (hold (made t (normal d m)))) rest
    unfolding bits
    values-back w apart m full y rest =
        let parts = λ (q : Question) (r : of_reading q ≡ true). yes-of_parts d m q (y q r) in
        format_back identifier_of content content_bits element_normal (format_by d t hold) apart (elements_of d.table m.slots) (slots-back d.table m.slots full (λ q r. (parts q r).slots))
        (more d m) (slots-none m) _ rest
        (head-back d s t.options t.head w m.fields (λ q r. (parts q r).fields) m.options (λ q r. (parts q r).options) (more d m) (options-none m) (slots_bits d.table m.slots) rest)
        (one_bit (more d m))
        (ap (λ (ss : Slots d.table). hold (t.finish (t.head (normal d m).fields (t.options (normal d m).options)) ss)) (slots-normal d.table m.slots))

    -- WHAT WAS READ is its own normal form, and its arrays are full
    pub record WasRead (x : V) : Type 0 where
      pub values : Values d
      pub is : hold (made t values) ≡ x
      pub own : normal d values ≡ values
      pub full : FullSlots d.table values.slots

    was-made : (vs : Fields d.fields) (os : Options d.options) (ss : Slots d.table) → fields_normal d.fields vs ≡ vs
        → options_normal d.options os ≡ os → OwnSlots d.table ss → WasRead (hold (t.finish (t.head vs (t.options os)) ss))
    was-made vs os ss f o own = record {
      values = record { fields = vs; options = os; slots = ss };
      is = refl;
      own = λ i. record { fields = f i; options = o i; slots = own.own i };
      full = own.full;
    }

    pub values-read : (b : Bool) (bs : Bits) {x : Counted V} {rest : Bits} → message identifier_of content (format_by d t hold) b bs ≡ got x rest → WasRead x.value
    values-read b bs e =
        message-made identifier_of content (format_by d t hold) (λ x. WasRead x.value) b bs
        (λ h mid p o y r q. head-read d s t.options t.head bs p (λ vs os f o made. rw (← made) (was-made vs os _ f o (scan_own b d.table mid q))))
        (λ h mid p o. head-read d s t.options t.head bs p (λ vs os f o made. rw (← made) (was-made vs os _ f o (nothing_own d.table)))) e
