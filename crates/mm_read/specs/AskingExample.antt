-- A line that asks for a call: ` demand<tab>skipping 26aF 3 12`.
use Rattle.std.specs.Prelude.{◌≡◌, ℕ, Some, Ok, List, [], ◌∷◌, ◌++◌, codes, refl}
use Rattle.mm_read.specs.Words.{first_word, after_word, octets, decimal_from, decimal_of}
use Rattle.mm_read.specs.Asking.{octets_word, asked_of}

abbrev line : List ℕ
line = codes " demand" ++ 9 ∷ codes "skipping 26aF 3 12"

pub its_call : asked_of line ≡ Ok (Some (record { message = 2; wanted = 1; first = 3; end = 12 }))
unfolding first_word after_word decimal_of decimal_from
its_call = refl

pub its_octets : octets (octets_word line) ≡ 38 ∷ 175 ∷ []
unfolding octets first_word after_word
its_octets = refl
