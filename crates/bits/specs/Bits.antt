-- Bits, most significant first (document 01, 'Bits'): those of octets, those of a number at a width, and the number that bits write.
use Rattle.std.specs.Prelude.{ℕ, zero, suc, ◌+◌, ◌*◌, ◌/◌, ◌%◌, ◌^◌, Bool, true, false, List, [], ◌∷◌, ◌++◌, length}

abbrev pub Bits : Type 0
Bits = List Bool

abbrev pub bit : Bool → ℕ
bit false = 0
bit true = 1

abbrev pub positive : ℕ → Bool
positive zero = false
positive (suc n) = true

abbrev pub odd : ℕ → Bool
odd n = positive (n % 2)

-- the number that the bits write
unfoldable pub number : Bits → ℕ
number [] = 0
number (b ∷ bs) = bit b * 2 ^ length bs + number bs

-- the low w binary digits of v
unfoldable pub digits : ℕ → ℕ → Bits
digits zero v = []
digits (suc w) v = odd (v / 2 ^ w) ∷ digits w v

-- the bits of octets: bit 0 is the top bit of octet 0
unfoldable pub bits_of : List ℕ → Bits
bits_of [] = []
bits_of (o ∷ os) = digits 8 o ++ bits_of os
