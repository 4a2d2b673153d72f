-- A MESSAGE AS DATA, as the standard's tables have it (EN 300 392-2, clause 16.9): its type, its fields up to the O-bit, its type 2 elements,
-- its table of type 3 and type 4 elements. What follows for any message: what its record stores, how it is read, passed, written and asked.
use Rattle.std.specs.Prelude.{ℕ, ◌≡◌, Bool, true, false, ◌&&◌, ◌||◌, List, [], ◌∷◌, ◌++◌, eqb, is_some, option_map}
use Rattle.std.specs.Prelude.{Option, None, Some}
use Rattle.std.specs.Bool.{beq}
use Rattle.bits.specs.Bits.{Bits, digits}
use Rattle.bits.specs.Reader.{Reader, got, ◌>>=◌, field, pass}
use Rattle.elements.specs.Numbers.{optional_number, option_bits, option_all, in_width, u64_of, in_u64, flag_width, type2, type2_bits, announced}
use Rattle.elements.specs.TableWritten.{table_bits}
use Rattle.elements.specs.Kinds.{Value, kind_fits, kind_one, kind_listed, kind_short, kind_normal, SameValue, Element, identifier_of, content_bits, Stored, stored, held_in, stored_in, slot_of}
use Rattle.elements.specs.declared.typed_pdu_fields.OptionalU64.{OptionalU64}
use Rattle.elements.specs.declared.typed_pdu_fields.Kind.{Kind}
use Rattle.elements.specs.declared.typed_pdu_fields.Kind.TheVariants as K
use Rattle.elements.specs.declared.typed_pdu_fields.Row.{Row}
use Rattle.messages.specs.Head.{pdu_type_width, pdu_type, behind_obit, pass_if, layout_options, any_present}
use Rattle.messages.specs.Questions.{Asked, fits, ciphered, attached, formed, type3_only, short}
use Rattle.messages.specs.declared.Headed.{Headed}

-- ## the description

-- A FIELD up to the O-bit
pub data Field : Type 0 where
  -- a number of w bits
  number : ℕ → Field
  -- a flag, and behind it a number of w bits where the flag is 1
  switched : ℕ → Field

-- A TYPE 2 ELEMENT
pub record Type2 : Type 1 where
  -- what it holds, in how many bits, and how it is read and written
  pub Value : Type 0
  pub width : ℕ
  pub read : Reader Value
  pub bits : Value → Bits
  -- what is asked of it, its normal form, and what is the same
  pub asked : Value → Asked
  pub normal : Value → Value
  pub Same : Value → Value → Type 0
  -- how a record stores it, where it may be absent
  pub Stored : Type 0
  pub stored : Option Value → Stored
  pub held : Stored → Option Value

pub record Description : Type 1 where
  pub type : ℕ
  pub fields : List Field
  pub options : List Type2
  pub table : List Row

-- ## what a message's record stores, in the order of the description

abbrev pub FieldValue : Field → Type 0
FieldValue (number w) = ℕ
FieldValue (switched w) = ℕ × OptionalU64

abbrev pub Fields : List Field → Type 0
Fields [] = Unit
Fields (f ∷ fs) = FieldValue f × Fields fs

abbrev pub Options : List Type2 → Type 0
Options [] = Unit
Options (c ∷ cs) = c.Stored × Options cs

abbrev pub Slots : List Row → Type 0
Slots [] = Unit
Slots (r ∷ rs) = Stored r.kind × Slots rs

pub record Values (d : Description) : Type 0 where
  pub fields : Fields d.fields
  pub options : Options d.options
  pub slots : Slots d.table

-- all absent and zero
abbrev pub no_fields : (fs : List Field) → Fields fs
no_fields [] = tt
no_fields (number w ∷ fs) = (0, no_fields fs)
no_fields (switched w ∷ fs) = ((0, u64_of None), no_fields fs)

abbrev pub no_options : (cs : List Type2) → Options cs
no_options [] = tt
no_options (c ∷ cs) = (c.stored None, no_options cs)

abbrev pub no_slots : (rs : List Row) → Slots rs
no_slots [] = tt
no_slots (r ∷ rs) = (stored r.kind None, no_slots rs)

abbrev pub no_values : (d : Description) → Values d
no_values d = record { fields = no_fields d.fields; options = no_options d.options; slots = no_slots d.table }

-- ## how it is read: each part, and then k, which takes what was read

unfoldable pub read_fields : {B : Type 0} (fs : List Field) → (Fields fs → Reader B) → Reader B
read_fields [] k = k tt
read_fields (number w ∷ fs) k = field w >>= λ v. read_fields fs (λ vs. k (v, vs))
read_fields (switched w ∷ fs) k = field flag_width >>= λ v. optional_number (eqb v 1) w >>= λ o. read_fields fs (λ vs. k ((v, u64_of o), vs))

unfoldable pub read_options : {B : Type 0} (cs : List Type2) → (Options cs → Reader B) → Reader B
read_options [] k = k tt
read_options (c ∷ cs) k = type2 c.read >>= λ o. read_options cs (λ os. k (c.stored o, os))

-- the type 2 elements behind an O-bit of 1, as f holds them
abbrev pub options_behind : {T : Type 0} (cs : List Type2) → (Options cs → T) → Bool → Reader T
options_behind [] f b = got (f tt)
options_behind (c ∷ cs) f b = behind_obit (read_options (c ∷ cs) (λ os. got (f os))) (f (no_options (c ∷ cs))) b

-- what stands before the listed elements, as f and h hold it
unfoldable pub read_head : (d : Description) {T H : Type 0} → (Options d.options → T) → (Fields d.fields → T → H) → Reader (Headed H)
read_head d f h =
    pdu_type d.type >>= λ z. read_fields d.fields (λ vs. field flag_width >>= λ o. options_behind d.options f (eqb o 1) >>= λ t.
    got (record { head = h vs t; obit = o }))

-- what the slots hold, of what was read of them
abbrev pub slots_in : (rs : List Row) → List (Option Element) → Slots rs
slots_in [] es = tt
slots_in (r ∷ rs) [] = (stored r.kind None, slots_in rs [])
slots_in (r ∷ rs) (e ∷ es) = (stored_in r.kind e, slots_in rs es)

-- ## the walk's layout: bits passed, no value judged

unfoldable pub pass_fields : {B : Type 0} → List Field → Reader B → Reader B
pass_fields [] k = k
pass_fields (number w ∷ fs) k = pass w >>= λ z. pass_fields fs k
pass_fields (switched w ∷ fs) k = field flag_width >>= λ v. pass_if (eqb v 1) (pass w) >>= λ z. pass_fields fs k

unfoldable pub widths : List Type2 → List ℕ
widths [] = []
widths (c ∷ cs) = c.width ∷ widths cs

unfoldable pub layout : Description → Reader Bool
layout d = pass pdu_type_width >>= λ z. pass_fields d.fields (layout_options (widths d.options))

-- ## how it is written: each part before what comes behind it

unfoldable pub fields_bits : (fs : List Field) → Fields fs → Bits → Bits
fields_bits [] vs xs = xs
fields_bits (number w ∷ fs) vs xs = digits w vs.0 ++ fields_bits fs vs.1 xs
fields_bits (switched w ∷ fs) vs xs = digits flag_width vs.0.0 ++ (option_bits (digits w) (in_u64 vs.0.1) ++ fields_bits fs vs.1 xs)

unfoldable pub options_bits : (cs : List Type2) → Options cs → Bits → Bits
options_bits [] os xs = xs
options_bits (c ∷ cs) os xs = type2_bits c.bits (c.held os.0) ++ options_bits cs os.1 xs

abbrev pub elements_of : (rs : List Row) → Slots rs → List (Option Element)
elements_of [] ss = []
elements_of (r ∷ rs) ss = slot_of r.kind ss.0 ∷ elements_of rs ss.1

-- whether a type 2 element is present
unfoldable pub any_option : (cs : List Type2) → Options cs → Bool
any_option [] os = false
any_option (c ∷ cs) os = is_some (c.held os.0) || any_option cs os.1

-- the type, the fields, and the O-bit: it is 1 where something is announced, which follows
unfoldable pub head_bits : (d : Description) → Fields d.fields → Bool → Bits → Bits
head_bits d vs more xs = digits pdu_type_width d.type ++ fields_bits d.fields vs (announced more xs)

-- the listed elements and the closing M-bit
abbrev pub slots_bits : (rs : List Row) → Slots rs → Bits
slots_bits rs ss = table_bits identifier_of content_bits rs (elements_of rs ss)

module _ (d : Description) where
  -- whether anything follows the O-bit
  unfoldable pub more : Values d → Bool
  more m = any_option d.options m.options || any_present (elements_of d.table m.slots)

  unfoldable pub bits : Values d → Bits
  bits m = head_bits d m.fields (more m) (options_bits d.options m.options (slots_bits d.table m.slots))

-- ## what is asked

-- question 8 alone
abbrev pub only_fits : Bool → Asked
only_fits b fits = b
only_fits b q = true

abbrev pub field_asked : (f : Field) → FieldValue f → Asked
field_asked (number w) v fits = in_width w v
field_asked (switched w) v fits = in_width flag_width v.0 && option_all (in_width w) (in_u64 v.1)
field_asked (switched w) v ciphered = beq v.1.present (eqb v.0 1)
field_asked f v q = true

abbrev pub is_type3_only : Kind → Bool
is_type3_only K.Type4 = false
is_type3_only k = true

abbrev pub kind_asked : (k : Kind) → Value k → Asked
kind_asked k v fits = kind_fits k v
kind_asked k v attached = kind_one k v
kind_asked k v formed = kind_listed k v
kind_asked k v type3_only = is_type3_only k
kind_asked k v short = kind_short k v
kind_asked k v q = true

unfoldable pub fields_asked : (fs : List Field) → Fields fs → Asked
fields_asked [] vs q = true
fields_asked (f ∷ fs) vs q = field_asked f vs.0 q && fields_asked fs vs.1 q

unfoldable pub options_asked : (cs : List Type2) → Options cs → Asked
options_asked [] os q = true
options_asked (c ∷ cs) os q = option_all (λ v. c.asked v q) (c.held os.0) && options_asked cs os.1 q

unfoldable pub slots_asked : (rs : List Row) → Slots rs → Asked
slots_asked [] ss q = true
slots_asked (r ∷ rs) ss q = option_all (λ v. kind_asked r.kind v q) (held_in r.kind ss.0) && slots_asked rs ss.1 q

-- THE ANSWERS about the whole record
unfoldable pub asked : (d : Description) → Values d → Asked
asked d m q = fields_asked d.fields m.fields q && (options_asked d.options m.options q && slots_asked d.table m.slots q)

-- ## the normal form: what is absent is zero

abbrev pub field_normal : (f : Field) → FieldValue f → FieldValue f
field_normal (number w) v = v
field_normal (switched w) v = (v.0, u64_of (in_u64 v.1))

unfoldable pub fields_normal : (fs : List Field) → Fields fs → Fields fs
fields_normal [] vs = tt
fields_normal (f ∷ fs) vs = (field_normal f vs.0, fields_normal fs vs.1)

unfoldable pub options_normal : (cs : List Type2) → Options cs → Options cs
options_normal [] os = tt
options_normal (c ∷ cs) os = (c.stored (option_map c.normal (c.held os.0)), options_normal cs os.1)

unfoldable pub slots_normal : (rs : List Row) → Slots rs → Slots rs
slots_normal [] ss = tt
slots_normal (r ∷ rs) ss = (stored r.kind (option_map (kind_normal r.kind) (held_in r.kind ss.0)), slots_normal rs ss.1)

abbrev pub normal : (d : Description) → Values d → Values d
normal d m = record { fields = fields_normal d.fields m.fields; options = options_normal d.options m.options; slots = slots_normal d.table m.slots }

-- ## what is the same: what is present

abbrev pub SameHeld : {A : Type 0} → (A → A → Type 0) → Option A → Option A → Type 0
SameHeld eq None None = Unit
SameHeld eq (Some a) (Some b) = eq a b
SameHeld eq o u = ⊥

abbrev pub SameField : (f : Field) → FieldValue f → FieldValue f → Type 0
SameField (number w) v u = v ≡ u
SameField (switched w) v u = (v.0 ≡ u.0) × SameHeld ◌≡◌ (in_u64 v.1) (in_u64 u.1)

abbrev pub SameFields : (fs : List Field) → Fields fs → Fields fs → Type 0
SameFields [] vs us = Unit
SameFields (f ∷ fs) vs us = SameField f vs.0 us.0 × SameFields fs vs.1 us.1

abbrev pub SameOptions : (cs : List Type2) → Options cs → Options cs → Type 0
SameOptions [] os us = Unit
SameOptions (c ∷ cs) os us = SameHeld c.Same (c.held os.0) (c.held us.0) × SameOptions cs os.1 us.1

abbrev pub SameSlots : (rs : List Row) → Slots rs → Slots rs → Type 0
SameSlots [] ss us = Unit
SameSlots (r ∷ rs) ss us = SameHeld (SameValue r.kind) (held_in r.kind ss.0) (held_in r.kind us.0) × SameSlots rs ss.1 us.1

pub record Same (d : Description) (m n : Values d) : Type 0 where
  pub fields : SameFields d.fields m.fields n.fields
  pub options : SameOptions d.options m.options n.options
  pub slots : SameSlots d.table m.slots n.slots

-- ## the code's record R of a message, tied to what it stores

-- T and H are the code's records of the type 2 elements, and of them with the fields before
pub record Tie (d : Description) (R : Type 0) : Type 1 where
  pub T : Type 0
  pub H : Type 0
  pub options : Options d.options → T
  pub head : Fields d.fields → T → H
  pub finish : H → Slots d.table → R
  pub values : R → Values d

abbrev pub made : {d : Description} {R : Type 0} → Tie d R → Values d → R
made t m = t.finish (t.head m.fields (t.options m.options)) m.slots
