-- The parts that a message is written in, and what is asked of each, from its description.
use Rattle.std.specs.Prelude.{ℕ, zero, suc, ◌+◌, ◌≤◌, ◌≡◌, Bool, true, not, cond, ◌&&◌, List, [], ◌∷◌, ◌++◌, length, is_some}
use Rattle.bits.specs.Bits.{Bits, bit, digits}
use Rattle.elements.specs.Numbers.{option_all, in_width, flag_width, type2_bits}
use Rattle.elements.specs.Table.{mbit_width, length_width}
use Rattle.elements.specs.Lists.{downlinks}
use Rattle.elements.specs.Kinds.{Stored, held_in, kind_fits}
use Rattle.elements.specs.declared.typed_pdu_fields.Kind.{Kind}
use Rattle.elements.specs.declared.typed_pdu_fields.Kind.TheVariants as K
use Rattle.elements.specs.declared.typed_pdu_fields.Row.{Row}
use Rattle.element_writers.specs.GroupsAsked.{asked_list}
use Rattle.element_writers.specs.WrittenElements.{type3_parts, type3_size, outer_list_parts}
use Rattle.element_writers.specs.LocationAsked.{demand_location_asked, accept_location_asked, demand_location_parts, accept_location_parts}
use Rattle.element_writers.specs.declared.group_address.GroupsAsked.{GroupsAsked}
use Rattle.element_writers.specs.declared.group_address.LocationAsked.{LocationAsked}
use Rattle.messages.specs.Head.{pdu_type_width}
use Rattle.messages.specs.Questions.{fits, ciphered, alive, saving, type3_only}
use Rattle.messages.specs.Description.{Field, number, switched, Type2, Description, Fields, Options, Slots, Values, fields_bits, options_bits, slots_bits, fields_asked, options_asked, slots_asked}
use Rattle.message_writers.specs.declared.questions.FieldsAsked.{FieldsAsked}
use Rattle.message_writers.specs.declared.questions.OptionsAsked.{OptionsAsked}
use Rattle.message_writers.specs.declared.questions.ElementsAsked.{ElementsAsked}
use Rattle.message_writers.specs.declared.questions.MessageElements.{MessageElements}

-- ## up to the O-bit

abbrev pub front_bits : (d : Description) → Fields d.fields → Bool → Bits
front_bits d vs o = digits pdu_type_width d.type ++ fields_bits d.fields vs (digits flag_width (bit o))

unfoldable pub fields_size : (fs : List Field) → Fields fs → ℕ
fields_size [] vs = 0
fields_size (number w ∷ fs) vs = w + fields_size fs vs.1
fields_size (switched w ∷ fs) vs = flag_width + (cond vs.0.1.present w 0 + fields_size fs vs.1)

abbrev pub fields_answers : (d : Description) → Fields d.fields → FieldsAsked
fields_answers d vs = record {
  fits = fields_asked d.fields vs fits;
  ciphered = fields_asked d.fields vs ciphered;
  size = pdu_type_width + (fields_size d.fields vs + flag_width);
}

-- ## the type 2 elements

unfoldable pub options_size : (cs : List Type2) → Options cs → ℕ
options_size [] os = 0
options_size (c ∷ cs) os = flag_width + (cond (is_some (c.held os.0)) c.width 0 + options_size cs os.1)

abbrev pub options_answers : (cs : List Type2) → Options cs → OptionsAsked
options_answers cs os = record {
  fits = options_asked cs os fits;
  alive = options_asked cs os alive;
  saving = options_asked cs os saving;
  size = options_size cs os;
}

-- they are written in two fields: the first n of them, and those behind
abbrev pub first_options : ℕ → (cs : List Type2) → Options cs → Bits
first_options zero cs os = []
first_options (suc n) [] os = []
first_options (suc n) (c ∷ cs) os = type2_bits c.bits (c.held os.0) ++ first_options n cs os.1

abbrev pub last_options : ℕ → (cs : List Type2) → Options cs → Bits
last_options zero cs os = options_bits cs os []
last_options (suc n) [] os = []
last_options (suc n) (c ∷ cs) os = last_options n cs os.1

-- ## the listed elements

-- of elements, and behind them others
abbrev pub asked_both : ElementsAsked → ElementsAsked → ElementsAsked
asked_both x y = record {
  fits = x.fits && y.fits;
  one = x.one && y.one;
  listed = x.listed && y.listed;
  type3_only = x.type3_only && y.type3_only;
  short = x.short && y.short;
  size = x.size + y.size;
}

abbrev pub asked_none : ElementsAsked
asked_none = record { fits = true; one = true; listed = true; type3_only = true; short = true; size = 0 }

-- of a generic element
abbrev pub generic_answers : Bool → Bool → ℕ → ElementsAsked
generic_answers f t n = record { fits = f; one = true; listed = true; type3_only = t; short = true; size = n }

-- of a structure with a list, and of a list
abbrev pub location_answers : Bool → LocationAsked → ElementsAsked
location_answers p a = record { fits = a.fits; one = a.one; listed = a.listed; type3_only = true; short = a.short; size = cond p (16 + a.content) 0 }

abbrev pub list_answers : Bool → GroupsAsked → ElementsAsked
list_answers p a = record { fits = a.fits; one = a.one; listed = a.listed; type3_only = true; short = in_width length_width a.size; size = cond p (16 + a.size) 0 }

-- AN ELEMENT of each kind, which may be absent
abbrev pub kind_answers : (k : Kind) → Stored k → ElementsAsked
kind_answers K.Type3 s = generic_answers (option_all (kind_fits K.Type3) (held_in K.Type3 s)) true (type3_size s)
kind_answers K.Type4 s = generic_answers (option_all (kind_fits K.Type4) (held_in K.Type4 s)) (not s.present) 0
kind_answers K.LocationDemand s = location_answers s.present (demand_location_asked s)
kind_answers K.LocationAccept s = location_answers s.present (accept_location_asked s)
kind_answers K.Downlinks s = list_answers s.present (asked_list downlinks s)

-- the parts that it is written in; a type 4 element is not written
abbrev pub kind_parts : (k : Kind) → ℕ → Stored k → List Bits
kind_parts K.Type3 i s = type3_parts i s
kind_parts K.Type4 i s = []
kind_parts K.LocationDemand i s = demand_location_parts i (demand_location_asked s).list (demand_location_asked s).content s
kind_parts K.LocationAccept i s = accept_location_parts i (accept_location_asked s).list (accept_location_asked s).content s
kind_parts K.Downlinks i s = outer_list_parts i (asked_list downlinks s).size s

-- the lengths of its list's content, and of its own
abbrev pub kind_lengths : (k : Kind) → Stored k → ℕ × ℕ → ℕ × ℕ
kind_lengths K.LocationDemand s none = ((demand_location_asked s).list, (demand_location_asked s).content)
kind_lengths K.LocationAccept s none = ((accept_location_asked s).list, (accept_location_asked s).content)
kind_lengths K.Downlinks s none = ((asked_list downlinks s).size, (asked_list downlinks s).size)
kind_lengths k s none = none

-- of the slots of a table, behind others
abbrev pub asked_behind : ElementsAsked → (rs : List Row) → Slots rs → ElementsAsked
asked_behind a [] ss = a
asked_behind a (r ∷ rs) ss = asked_behind (asked_both a (kind_answers r.kind ss.0)) rs ss.1

abbrev pub slots_parts : (rs : List Row) → Slots rs → List Bits
slots_parts [] ss = digits mbit_width 0 ∷ []
slots_parts (r ∷ rs) ss = kind_parts r.kind r.identifier ss.0 ++ slots_parts rs ss.1

-- the lengths of the slot with groups
abbrev pub slots_lengths : (rs : List Row) → Slots rs → ℕ × ℕ
slots_lengths [] ss = (0, 0)
slots_lengths (r ∷ rs) ss = kind_lengths r.kind ss.0 (slots_lengths rs ss.1)

abbrev pub elements_answers : (rs : List Row) → Slots rs → MessageElements
elements_answers rs ss = record { asked = asked_behind asked_none rs ss; list = (slots_lengths rs ss).0; content = (slots_lengths rs ss).1 }

-- ## of a message

module _ (d : Description) (v : Values d) where
  abbrev pub elements_in : Bits
  elements_in = slots_bits d.table v.slots

  -- what the questions allow to be written, given the lengths that were asked, where n bits are left
  pub record Allowed (list content n : ℕ) : Type 0 where
    pub fit : slots_asked d.table v.slots fits ≡ true
    pub only : slots_asked d.table v.slots type3_only ≡ true
    pub lengths : (list, content) ≡ slots_lengths d.table v.slots
    pub room : length elements_in ≤ n
