-- A message's table as the code holds it, and its generic slots as the code reads them.
use Rattle.std.specs.Prelude.{ℕ, ◌+◌, ◌-◌, min, Bool, true, false, cond, nat_eq, List, [], ◌∷◌, take, drop, replicate}
use Rattle.std.specs.Prelude.{Option, Some}
use Rattle.std.specs.Option.{option_eq}
use Rattle.std.proofs.lemmas.List.Edits.{sets}
use Rattle.bits.specs.PduParseError.{buffer_ended}
use Rattle.bits.specs.Reader.{Reader, got, refused, then, ◌>>=◌, field}
use Rattle.elements.specs.Table.{length_width, Look, outside, ends, opens, look, Counted, counted, closing, is_listed, skip, slot}
use Rattle.elements.specs.Generics.{type3, type4}
use Rattle.elements.specs.Kinds.{row, Element, identifier_of, content, stored_in}
use Rattle.elements.specs.declared.typed_pdu_fields.OptionalType3.{OptionalType3}
use Rattle.elements.specs.declared.typed_pdu_fields.OptionalType4.{OptionalType4}
use Rattle.elements.specs.declared.typed_pdu_fields.Generic.{Generic}
use Rattle.elements.specs.declared.typed_pdu_fields.Row.{Row}
use Rattle.elements.specs.declared.typed_pdu_fields.Kind.{Kind}
use Rattle.elements.specs.declared.typed_pdu_fields.Kind.TheVariants as K
use Rattle.elements.specs.declared.typed_pdu_fields.Slots.{Slots}

-- the rows from one place up to another
abbrev pub slots_from : List Row → ℕ → ℕ → List Row
slots_from t from to = take (min to 8 - from) (drop from t)

-- the unlisted elements that stand here, if they are skipped
abbrev pub skipping : List Row → Bool → Reader ℕ
skipping table = skip (is_listed identifier_of table)

-- the end of a table
abbrev pub table_end : List Row → Bool → Reader ℕ
table_end table b = skipping table b >>= λ n. closing >>= λ z. got n

-- the closing M-bit, where there is one
abbrev pub closing_if : Bool → Reader Unit
closing_if true = closing
closing_if false = got tt

abbrev pub follows_at : Look → Reader Bool
follows_at outside bs = refused buffer_ended
follows_at ends bs = then (closing bs) (λ z. got false)
follows_at (opens i) bs = got true bs

-- whether an element follows, by the look: none where the O-bit announces none, and none before the closing M-bit, which is passed
unfoldable pub element_follows : Bool → Reader Bool
element_follows true bs = follows_at (look bs) bs
element_follows false bs = got false bs

-- ## generic slots

abbrev pub from_type3 : OptionalType3 → Generic
from_type3 o = record { present = o.present; len = o.value.len; padding = 0; elems = 0; «data» = o.value.«data» }

abbrev pub from_type4 : OptionalType4 → Generic
from_type4 o = record { present = o.present; len = o.value.len; padding = 0; elems = o.value.elems; «data» = o.value.«data» }

-- and back
abbrev pub type3_from : Generic → OptionalType3
type3_from g = record { present = g.present; value = record { len = g.len; «data» = g.«data» } }

abbrev pub type4_from : Generic → OptionalType4
type4_from g = record { present = g.present; value = record { len = g.len; elems = g.elems; «data» = g.«data» } }

-- an element from its length on
abbrev pub sized : {A : Type 0} → (ℕ → Reader A) → Reader A
sized r = field length_width >>= r

abbrev pub generic_type3_at : ℕ → Reader Generic
generic_type3_at n = type3 n >>= λ g. got (from_type3 (record { present = true; value = g }))

abbrev pub generic_type4_at : ℕ → Reader Generic
generic_type4_at n = type4 n >>= λ g. got (from_type4 (record { present = true; value = g }))

abbrev pub is_type4 : Kind → Bool
is_type4 K.Type3 = false
is_type4 K.Type4 = true
is_type4 K.LocationDemand = false
is_type4 K.LocationAccept = false
is_type4 K.Downlinks = false

abbrev pub generic_row : Row → Row
generic_row r = row r.identifier (cond (is_type4 r.kind) K.Type4 K.Type3)

abbrev pub generic_in : Row → Option Element → Generic
generic_in r o = cond (is_type4 r.kind) (from_type4 (stored_in K.Type4 o)) (from_type3 (stored_in K.Type3 o))

-- the content of a slot from its length on, as the code holds it
unfoldable pub generic_content : Row → Reader Generic
generic_content r = sized (content (generic_row r)) >>= λ a. got (generic_in r (Some a))

unfoldable pub generic_slot : Row → Reader Generic
generic_slot r = slot identifier_of content (generic_row r) >>= λ o. got (generic_in r o)

-- the slots one after the other
unfoldable pub generics : List Row → List Row → Bool → Reader (Counted (List Generic))
generics table [] b = got (counted 0 [])
generics table (r ∷ rs) b = skipping table b >>= λ n. generic_slot r >>= λ g. generics table rs b >>= λ x. got (counted (n + x.skipped) (g ∷ x.value))

-- ## a part of a table

abbrev pub no_generic : Generic
no_generic = record { present = false; len = 0; padding = 0; elems = 0; «data» = 0 }

-- no slot read yet
abbrev pub no_generics : List Generic
no_generics = replicate 8 no_generic

-- the values put into the array from a place on
abbrev pub slots_in : List Generic → ℕ → Counted (List Generic) → Slots
slots_in before from x = record { skipped = x.skipped; generics = sets before from x.value }

-- what is passed behind a part: unlisted elements, and at the table's end the closing M-bit
abbrev pub behind_part : Bool → List Row → Bool → Reader ℕ
behind_part true table b = table_end table b
behind_part false table b = skipping table b

-- the values of a part stand in the array from its first place on, the others are absent
unfoldable pub part : List Row → List Row → Bool → Bool → ℕ → Reader Slots
part table rs last b from =
    generics table rs b >>= λ x. behind_part last table b >>= λ n. got (slots_in no_generics from (counted (x.skipped + n) x.value))

-- whether what stands behind the M-bit is the identifier of a row
abbrev pub opened_by : Option ℕ → Row → Bool
opened_by o r = option_eq nat_eq o (Some r.identifier)
