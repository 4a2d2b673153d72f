-- A reader of bits, run at a cursor over octets; and what each answer of the code says.
use Rattle.std.specs.Prelude.{ℕ, ◌+◌, ◌-◌, ◌*◌, min, List, length, take, drop, Result, Ok, Err}
use Rattle.bits.specs.Bits.{Bits, number, bits_of}
use Rattle.bits.specs.PduParseError.{number_of}
use Rattle.bits.specs.Reader.{Answer, got, refused, Reader}
use Rattle.bits.specs.declared.bitbuffer.Cursor.{Cursor}
use Rattle.bits.specs.declared.pdu_parse_error.PduParseErr.{PduParseErr}

-- the bits left at a cursor: none past its end, and none past the octets
unfoldable pub window : List ℕ → Cursor → Bits
window os c = take (c.end - c.at) (drop c.at (bits_of os))

-- how many they are, in n octets
abbrev pub left : ℕ → Cursor → ℕ
left n c = min (c.end - c.at) (8 * n - c.at)

-- the number that the w bits from bit `from` on write
abbrev pub field_at : List ℕ → ℕ → ℕ → ℕ
field_at os from w = number (take w (drop from (bits_of os)))

-- the cursor n bits further on
abbrev pub onward : ℕ → Cursor → Cursor
onward n c = record { at = c.at + n; end = c.end }

-- a value and the moved place, or a refusal
pub data Placed (A : Type 0) : Type 0 where
  placed : A → Cursor → Placed A
  halted : PduParseErr → Placed A

-- an answer over the n bits left at a cursor: the cursor moves by as many as were used
abbrev pub place : {A : Type 0} → Cursor → ℕ → Answer A → Placed A
place c n (got a rest) = placed a (record { at = c.at + n - length rest; end = c.end })
place c n (refused k) = halted k

-- WHAT A READER GIVES AT A CURSOR
unfoldable pub at : {A : Type 0} → Reader A → List ℕ → Cursor → Placed A
at r os c = place c (length (window os c)) (r (window os c))

-- ## the code's answers

-- a value, of which f says what it is, and the moved place, or a refusal
abbrev pub as_by : {A B : Type 0} → (A → B) → Result (A × Cursor) PduParseErr → Placed B
as_by f (Ok (v, c)) = placed (f v) c
as_by f (Err e) = halted e

abbrev pub as_read : {A : Type 0} → Result (A × Cursor) PduParseErr → Placed A
as_read = as_by (λ v. v)

abbrev pub as_moved : Result Cursor PduParseErr → Placed Unit
as_moved (Ok c) = placed tt c
as_moved (Err e) = halted e

-- the number of a refusal, 0 if there is none
abbrev pub refusal : {A : Type 0} → Placed A → ℕ
refusal (placed a c) = 0
refusal (halted e) = number_of e
