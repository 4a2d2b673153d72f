-- The words of a line, and what they spell. A text is the list of its characters' codes.
use Rattle.std.specs.Prelude.{ℕ, ◌+◌, ◌*◌, ◌^◌, Bool, cond, ◌||◌, not, List, [], ◌∷◌, length, take, drop, ◌==◌, nat_lt, Option, None, Some}
use Rattle.std.specs.Char.{digit_value}
use Rattle.std.specs.List.{position_or_len}
use Rattle.std.specs.Option.{option_and_then, unwrap_or}

-- a space or a tab
abbrev pub is_blank : ℕ → Bool
is_blank x = x == 32 || x == 9

-- a text without the blanks in front
abbrev pub unblanked : List ℕ → List ℕ
unblanked xs = drop (position_or_len (λ x. not (is_blank x)) xs) xs

-- the first word, empty if there is none
unfoldable pub first_word : List ℕ → List ℕ
first_word xs = take (position_or_len is_blank (unblanked xs)) (unblanked xs)

-- what stands behind the first word
unfoldable pub after_word : List ℕ → List ℕ
after_word xs = drop (position_or_len is_blank (unblanked xs)) (unblanked xs)

-- no word is left
abbrev pub no_word : List ℕ → Bool
no_word xs = length (first_word xs) == 0

-- the value of a digit of the base, where the character is one
abbrev pub digit_of : ℕ → ℕ → Option ℕ
digit_of base x = cond (nat_lt (digit_value x) base) (Some (digit_value x)) None

-- the octet that two hexadecimal digits write; another character counts 0
abbrev pub octet_of : ℕ → ℕ → ℕ
octet_of high low = 16 * unwrap_or (digit_of 16 high) 0 + unwrap_or (digit_of 16 low) 0

-- the octets that hexadecimal digits write, two by two
unfoldable pub octets : List ℕ → List ℕ
octets [] = []
octets (x ∷ []) = []
octets (x ∷ y ∷ xs) = octet_of x y ∷ octets xs

-- the number that decimal digits write behind the digits of n
unfoldable pub decimal_from : ℕ → List ℕ → Option ℕ
decimal_from n [] = Some n
decimal_from n (x ∷ xs) = option_and_then (λ d. decimal_from (10 * n + d) xs) (digit_of 10 x)

-- that number, if it fits 64 bits
abbrev pub fitting : Option ℕ → Option ℕ
fitting None = None
fitting (Some n) = cond (nat_lt n (2 ^ 64)) (Some n) None

-- the number that decimal digits write, if it fits 64 bits
unfoldable pub decimal_of : List ℕ → Option ℕ
decimal_of xs = fitting (decimal_from 0 xs)
