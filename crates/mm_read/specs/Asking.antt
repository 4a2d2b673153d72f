-- What a line asks for: message, reading, octets in hexadecimal, and if wanted the window's first and end bit.
use Rattle.std.specs.Prelude.{ℕ, ◌*◌, ◌%◌, Bool, true, cond, List, [], ◌∷◌, length, ◌==◌, Option, None, Some, Result, Ok, Err, codes}
use Rattle.std.specs.Char.{is_digit}
use Rattle.std.specs.List.{list_all}
use Rattle.std.specs.Option.{ok_or}
use Rattle.std.specs.Str.{bytes_eq}
use Rattle.mm_read.specs.Words.{first_word, after_word, no_word, decimal_of}
use Rattle.mm_read.specs.declared.call.Call.{Call}
use Rattle.mm_read.specs.declared.call.Fault.{Fault}
use Rattle.mm_read.specs.declared.call.Fault.TheVariants.{WordsMissing, EndMissing, WordsExtra, MessageUnknown, ReadingUnknown, DigitsBad, DigitsOdd, BitUnknown, NumberTooLarge}

-- a decimal number; a word with another character is the fault `bad`
abbrev pub number_of : Fault → List ℕ → Result ℕ Fault
number_of bad xs = cond (list_all (λ x. is_digit x 10) xs) (ok_or (decimal_of xs) NumberTooLarge) (Err bad)

-- a message's type number: a name, or the number itself
abbrev pub message_of : List ℕ → Result ℕ Fault
message_of w =
    cond (bytes_eq w (codes "demand")) (Ok 2)
    (cond (bytes_eq w (codes "accept")) (Ok 5) (cond (bytes_eq w (codes "attach")) (Ok 10) (number_of MessageUnknown w)))

-- 0 for strict, 1 for skipping
abbrev pub reading_of : List ℕ → Result ℕ Fault
reading_of w = cond (bytes_eq w (codes "strict")) (Ok 0) (cond (bytes_eq w (codes "skipping")) (Ok 1) (Err ReadingUnknown))

-- how many bits the octets have that hexadecimal digits write: 4 for each digit
abbrev pub bits_of : List ℕ → Result ℕ Fault
bits_of hex =
    cond (list_all (λ x. is_digit x 16) hex) (cond (length hex % 2 == 0) (Ok (4 * length hex)) (Err DigitsOdd)) (Err DigitsBad)

-- a bit of the window, which has a value where no word names it
abbrev pub bit_of : List ℕ → ℕ → Result ℕ Fault
bit_of w otherwise = cond (length w == 0) (Ok otherwise) (number_of BitUnknown w)

-- from the third word on there are one or three words
abbrev pub shape_of : List ℕ → Result (Unit {0}) Fault
shape_of third =
    cond (no_word third) (Err WordsMissing)
    (cond (no_word (after_word third)) (Ok tt)
    (cond (no_word (after_word (after_word third))) (Err EndMissing)
    (cond (no_word (after_word (after_word (after_word third)))) (Ok tt) (Err WordsExtra))))

-- a line with this first word is empty, or a comment, which begins with #
abbrev pub passed_over : List ℕ → Bool
passed_over [] = true
passed_over (x ∷ xs) = x == 35

-- goes on with what was read, or ends with what keeps it from being read
abbrev pub and_then : {A B : Type 0} → Result A Fault → (A → Result B Fault) → Result B Fault
and_then (Ok x) k = k x
and_then (Err f) k = Err f

-- the third word: the octets
abbrev pub octets_word : List ℕ → List ℕ
octets_word line = first_word (after_word (after_word line))

-- the call, where message and reading are known and the third word comes next; the window is all bits if none is named
abbrev pub window_of : ℕ → ℕ → List ℕ → Result Call Fault
window_of message wanted third =
    and_then (bits_of (first_word third)) (λ bits.
    and_then (bit_of (first_word (after_word third)) 0) (λ first.
    and_then (bit_of (first_word (after_word (after_word third))) bits) (λ end.
    Ok (record { message = message; wanted = wanted; first = first; end = end }))))

-- the call that a line with a first word asks for
abbrev pub call_of : List ℕ → Result Call Fault
call_of line =
    and_then (shape_of (after_word (after_word line))) (λ _.
    and_then (message_of (first_word line)) (λ message.
    and_then (reading_of (first_word (after_word line))) (λ wanted.
    window_of message wanted (after_word (after_word line)))))

-- what a line asks for
abbrev pub asked_of : List ℕ → Result (Option Call) Fault
asked_of line = cond (passed_over (first_word line)) (Ok None) (and_then (call_of line) (λ call. Ok (Some call)))
