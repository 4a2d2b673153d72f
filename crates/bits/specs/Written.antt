-- Bits written at a cursor: the octets afterwards, and the moved place or the refusal.
use Rattle.std.specs.Prelude.{ℕ, zero, suc, ◌+◌, ◌^◌, ◌≡◌, cond, List, [], ◌∷◌, ◌++◌, length, take, drop, leb, ltb}
use Rattle.bits.specs.PduParseError.{value_too_large, window_too_short}
use Rattle.bits.specs.Bits.{Bits, number, digits, bits_of}
use Rattle.bits.specs.Placed.{left, onward, Placed, placed, halted}
use Rattle.bits.specs.declared.pdu_parse_error.PduParseErr.{PduParseErr}
use Rattle.bits.specs.declared.bitbuffer.Cursor.{Cursor}
use Rattle.bits.specs.declared.bitbuffer.Digits.{Digits}

-- bs with xs in the place of what stands from bit `from` on
unfoldable pub splice : Bits → ℕ → Bits → Bits
splice bs from xs = take from bs ++ (xs ++ drop (from + length xs) bs)

-- the first n octets that the bits write
unfoldable pub octets_of : ℕ → Bits → List ℕ
octets_of zero bs = []
octets_of (suc n) bs = number (take 8 bs) ∷ octets_of n (drop 8 bs)

-- os with the bits xs from bit `from` on, every other bit kept
unfoldable pub put_bits : List ℕ → ℕ → Bits → List ℕ
put_bits os from xs = octets_of (length os) (splice (bits_of os) from xs)

pub record Written : Type 0 where
  pub octets : List ℕ
  pub answer : Placed Unit

abbrev pub unwritten : PduParseErr → List ℕ → Written
unwritten n os = record { octets = os; answer = halted n }

-- WHAT WRITING BITS GIVES: they stand at the cursor, or nothing changes
unfoldable pub write : Bits → List ℕ → Cursor → Written
write xs os c =
    cond (leb (length xs) (left (length os) c))
    (record { octets = put_bits os c.at xs; answer = placed tt (onward (length xs) c) })
    (unwritten window_too_short os)

-- a number written in w bits, at most 64
unfoldable pub write_field : ℕ → ℕ → List ℕ → Cursor → Written
write_field w v os c = cond (leb w 64) (cond (ltb v (2 ^ w)) (write (digits w v) os c) (unwritten value_too_large os)) (unwritten value_too_large os)

abbrev pub written : List ℕ → Placed Unit → Written
written os a = record { octets = os; answer = a }

-- ## one after the other

-- octets, and the cursor at which what comes next is put
pub record Spot : Type 0 where
  pub octets : List ℕ
  pub cursor : Cursor

abbrev pub spot : List ℕ → Cursor → Spot
spot os c = record { octets = os; cursor = c }

-- WHAT PUTTING BITS GIVES: they stand at the cursor where so many are left, and the cursor is behind them; else nothing changes
unfoldable pub put : Bits → Spot → Spot
put xs s = cond (leb (length xs) (left (length s.octets) s.cursor)) (spot (put_bits s.octets s.cursor.at xs) (onward (length xs) s.cursor)) s

-- lists of bits, one after the other
unfoldable pub joined : List Bits → Bits
joined [] = []
joined (xs ∷ xss) = xs ++ joined xss

unfoldable pub puts : List Bits → Spot → Spot
puts [] s = s
puts (xs ∷ xss) s = puts xss (put xs s)

-- ## bits that are written as one field, at most 64

abbrev pub bits_in : Digits → Bits
bits_in d = digits d.width d.value

abbrev pub too_wide : Digits
too_wide = record { value = 0; width = 65 }

unfoldable pub digits_in : Bits → Digits
digits_in xs = cond (leb (length xs) 64) (record { value = number xs; width = length xs }) too_wide

-- more than 64 are not put
abbrev pub put_digits : Digits → Spot → Spot
put_digits d s = cond (leb d.width 64) (put (bits_in d) s) s

-- d stands for the bits xs
pub record Holds (d : Digits) (xs : Bits) : Type 0 where
  pub is : d ≡ digits_in xs

-- r stands for those of d with xs behind them
pub record Joined (d : Digits) (xs : Bits) (r : Digits) : Type 0 where
  pub is : r ≡ digits_in (bits_in d ++ xs)
