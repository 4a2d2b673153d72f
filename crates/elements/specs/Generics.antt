-- Type 3 and type 4 elements that are kept as they come: the declared length, and the first bits as a number.
use Rattle.std.specs.Prelude.{ℕ, ◌-◌, min, Bool, ◌&&◌, ◌++◌, leb}
use Rattle.bits.specs.PduParseError.{type4_underflow}
use Rattle.bits.specs.Bits.{Bits, digits}
use Rattle.bits.specs.Reader.{Reader, got, ◌>>=◌, field, pass, unless}
use Rattle.elements.specs.Numbers.{in_width}
use Rattle.elements.specs.declared.typed_pdu_fields.Type3FieldGeneric.{Type3FieldGeneric}
use Rattle.elements.specs.declared.typed_pdu_fields.Type4FieldGeneric.{Type4FieldGeneric}

-- how many bits of a generic element are kept
abbrev pub data_width : ℕ
data_width = 64

-- the number of entries of a type 4 element
abbrev pub entries_width : ℕ
entries_width = 6

-- the number that the first bits of n write; the rest is passed
unfoldable pub kept : ℕ → Reader ℕ
kept n = field (min n data_width) >>= λ d. pass (n - data_width) >>= λ z. got d

unfoldable pub type3 : ℕ → Reader Type3FieldGeneric
type3 n = kept n >>= λ d. got (record { len = n; «data» = d })

-- what a type 4 element of n bits holds behind its number of entries; n counts that number too
abbrev pub entries : {A : Type 0} → (ℕ → ℕ → Reader A) → ℕ → Reader A
entries r n = field entries_width >>= λ k. unless (leb entries_width n) type4_underflow >>= λ z. r k (n - entries_width)

-- behind the number of entries k: n bits of data
abbrev pub kept_entries : ℕ → ℕ → Reader Type4FieldGeneric
kept_entries k n = kept n >>= λ d. got (record { len = n; elems = k; «data» = d })

unfoldable pub type4 : ℕ → Reader Type4FieldGeneric
type4 = entries kept_entries

abbrev pub no_type3 : Type3FieldGeneric
no_type3 = record { len = 0; «data» = 0 }

abbrev pub no_type4 : Type4FieldGeneric
no_type4 = record { len = 0; elems = 0; «data» = 0 }

unfoldable pub type3_bits : Type3FieldGeneric → Bits
type3_bits g = digits g.len g.«data»

unfoldable pub type4_bits : Type4FieldGeneric → Bits
type4_bits g = digits entries_width g.elems ++ digits g.len g.«data»

-- QUESTION 8: a length of at most 64, data below 2 to that length, at most 63 entries
unfoldable pub type3_fits : Type3FieldGeneric → Bool
type3_fits g = leb g.len data_width && in_width g.len g.«data»

unfoldable pub type4_fits : Type4FieldGeneric → Bool
type4_fits g = leb g.len data_width && (in_width g.len g.«data» && in_width entries_width g.elems)
