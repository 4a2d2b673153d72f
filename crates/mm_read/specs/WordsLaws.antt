-- Steps of a loop over a text: what the definitions of `Words` say of the text from a place on.
use Rattle.std.specs.Prelude.{◌≡◌, ℕ, ◌+◌, ◌-◌, ◌*◌, ◌^◌, ◌<◌, ◌≤◌, Bool, true, false, cond, not, List, [], ◌∷◌, ◌++◌, length, take, drop, slice_index, nat_lt, Option, None, Some, SomeIff, refl}
use Rattle.std.specs.Char.{digit_value}
use Rattle.std.specs.List.{position, position_or_len}
use Rattle.std.specs.Option.{unwrap_or, option_and_then}
use Rattle.std.proofs.Common.{sym, ap, ◌∙◌, append_assoc, append-nil, add-one, length-take, length-drop, drop_of_length-le, drop-cons, take_all}
use Rattle.std.proofs.lemmas.List.Sums.{prefix_len-le-length}
use native.Mathlib.Omega.{arith}
use borrow.Author.Tests.{lt-ltb, le-ltb}
use Rattle.mm_read.specs.Words.{is_blank, unblanked, first_word, after_word, digit_of, octet_of, octets, decimal_from, fitting, decimal_of}

-- a text from a place inside it: the character there, and what follows
pub from : (s : List ℕ) (i : ℕ) → i < length s → drop i s ≡ slice_index s i ∷ drop (i + 1) s
from s i h = rw (add-one, drop-cons s i 0)

some_or : (n m : ℕ) (b : Bool) → b ≡ nat_lt n m → n ≤ m → unwrap_or (cond b (Some n) None) m ≡ n
some_or n m true e h = refl
some_or n m false e h = grind arith

-- the first place at which p passes, or else the length
pub place_or_len : (p : ℕ → Bool) (xs : List ℕ) → unwrap_or (position p xs) (length xs) ≡ position_or_len p xs
place_or_len p xs = some_or _ _ _ refl (prefix_len-le-length (λ x. not (p x)) xs)

-- what `to_digit` gives
some_below : (base n : ℕ) (o : Option ℕ) → SomeIff o (n < base) n → o ≡ cond (nat_lt n base) (Some n) None
some_below base n None h = grind arith
some_below base n (Some d) h = rw (lt-ltb _ _ h.0, h.1) refl

pub digit_is : (base x y : ℕ) (o : Option ℕ) → y ≡ x → SomeIff o (digit_value y < base) (digit_value y) → o ≡ digit_of base x
digit_is base x y o e h = some_below base (digit_value y) o h ∙ ap (digit_of base) e

-- DECIMAL NUMBERS
decimal_cons : (n x : ℕ) (xs : List ℕ) → decimal_from n (x ∷ xs) ≡ option_and_then (λ d. decimal_from (10 * n + d) xs) (digit_of 10 x)
unfolding decimal_from
decimal_cons n x xs = refl

-- one digit more
pub decimal_more : (n d : ℕ) (s : List ℕ) (i : ℕ) → i < length s → Some d ≡ digit_of 10 (slice_index s i) → decimal_from n (drop i s) ≡ decimal_from (10 * n + d) (drop (i + 1) s)
decimal_more n d s i h e = rw (from s i h, decimal_cons, sym e) refl

pub decimal_ends : (n : ℕ) (s : List ℕ) (i : ℕ) → length s ≤ i → decimal_from n (drop i s) ≡ Some n
unfolding decimal_from
decimal_ends n s i h = rw (drop_of_length-le s h)

-- a character that is no digit
pub decimal_stops : (n : ℕ) (s : List ℕ) (i : ℕ) → i < length s → None ≡ digit_of 10 (slice_index s i) → decimal_from 0 s ≡ decimal_from n (drop i s) → None ≡ decimal_of s
unfolding decimal_of
decimal_stops n s i h e p = rw (p, from s i h, decimal_cons, sym e) refl

-- digits behind a number make it no smaller
none_fits : (n : ℕ) (xs : List ℕ) (o : Option ℕ) → ((d : ℕ) → fitting (decimal_from (10 * n + d) xs) ≡ None) → fitting (option_and_then (λ d. decimal_from (10 * n + d) xs) o) ≡ None
none_fits n xs None h = refl
none_fits n xs (Some d) h = h d

too_large : (n : ℕ) (xs : List ℕ) → 2 ^ 64 ≤ n → fitting (decimal_from n xs) ≡ None
unfolding decimal_from
too_large n [] h = rw (le-ltb _ _ h) refl
too_large n (x ∷ xs) h = none_fits n xs (digit_of 10 x) (λ d. too_large (10 * n + d) xs (omega arith))

pub decimal_fits : (s : List ℕ) (n : ℕ) → n < 2 ^ 64 → decimal_from 0 s ≡ Some n → Some n ≡ decimal_of s
unfolding decimal_of
decimal_fits s n h e = rw (e, lt-ltb _ _ h) refl

pub decimal_overflows : (s : List ℕ) (n d i : ℕ) → i < length s → Some d ≡ digit_of 10 (slice_index s i) → 2 ^ 64 ≤ 10 * n + d → decimal_from 0 s ≡ decimal_from n (drop i s) → None ≡ decimal_of s
unfolding decimal_of
decimal_overflows s n d i h e g p = rw (p, decimal_more n d s i h e, too_large _ _ g) refl

-- OCTETS
octets_end : (xs : List ℕ) → length xs < 2 → octets xs ≡ []
unfolding octets
octets_end [] h = refl
octets_end (x ∷ []) h = refl
octets_end (x ∷ y ∷ xs) h = absurd (omega arith)

-- one octet more
octets_put : (s out pair rest : List ℕ) (x : ℕ) → length pair ≡ 2 → x ≡ octet_of (slice_index pair 0) (slice_index pair 1)
    → octets s ≡ out ++ octets (pair ++ rest) → octets s ≡ (out ++ x ∷ []) ++ octets rest
unfolding octets
octets_put s out (y ∷ z ∷ []) rest x e q p = rw (append_assoc, q) p
octets_put s out [] rest x e q p = absurd (omega arith)
octets_put s out (y ∷ []) rest x e q p = absurd (omega arith)
octets_put s out (y ∷ z ∷ w ∷ ws) rest x e q p = absurd (omega arith)

pub octets_more : (s out new all pair rest : List ℕ) (x : ℕ) → all ≡ pair ++ rest → length pair ≡ 2 → x ≡ octet_of (slice_index pair 0) (slice_index pair 1) → new ≡ out ++ x ∷ []
    → octets s ≡ out ++ octets all → octets s ≡ new ++ octets rest
octets_more s out new all pair rest x a e q n p = rw n (octets_put s out pair rest x e q (p ∙ ap (λ xs. out ++ octets xs) a))

-- all are there
pub octets_done : (s out rest : List ℕ) → length rest < 2 → octets s ≡ out ++ octets rest → out ≡ octets s
octets_done s out rest h p = sym (p ∙ (rw (octets_end rest h, append-nil)))

-- PARTS OF A TEXT
pub unblanked_is : (s t : List ℕ) (o : Option ℕ) (n : ℕ) → s ≡ t → o ≡ position (λ x. not (is_blank x)) s → n ≡ unwrap_or o (length s) → take (length s - n) (drop n s) ≡ unblanked t
unblanked_is s t o n p e q =
    let h : length (drop n s) ≤ length s - n = rw length-drop (omega arith) in
    take_all _ _ h ∙ rw (q, e, place_or_len (λ x. not (is_blank x)) s, p) refl

pub word_of : (s rest : List ℕ) (o : Option ℕ) (n : ℕ) → rest ≡ unblanked s → o ≡ position is_blank rest → n ≡ unwrap_or o (length rest) → take n rest ≡ first_word s
unfolding first_word
word_of s rest o n p e q = rw (q, e, place_or_len is_blank rest, p) refl

pub behind_word : (s rest : List ℕ) (o : Option ℕ) (n : ℕ) → rest ≡ unblanked s → o ≡ position is_blank rest → n ≡ unwrap_or o (length rest) → drop n rest ≡ after_word s
unfolding after_word
behind_word s rest o n p e q = rw (q, e, place_or_len is_blank rest, p) refl

-- words are no longer than the text
pub first_word_within : (s : List ℕ) → length (first_word s) ≤ length s
unfolding first_word
first_word_within s = simp (length-take, length-drop) (omega arith)

pub after_word_within : (s : List ℕ) → length (after_word s) ≤ length s
unfolding after_word
after_word_within s = simp length-drop (omega arith)

-- OCTETS FROM A PLACE ON
octets-cons : (x y : ℕ) (xs : List ℕ) → octets (x ∷ y ∷ xs) ≡ octet_of x y ∷ octets xs
unfolding octets
octets-cons x y xs = refl

pub octets-more : (s : List ℕ) (i : ℕ) → 2 * i + 1 < length s → octets (drop (2 * i) s) ≡ octet_of (slice_index s (2 * i)) (slice_index s (2 * i + 1)) ∷ octets (drop (2 * (i + 1)) s)
octets-more s i h =
    let e : 2 * (i + 1) ≡ 2 * i + 1 + 1 = omega arith in
    rw (e, from s (2 * i) (omega arith), from s (2 * i + 1) h, octets-cons) refl

pub octets-ends : (s : List ℕ) (i : ℕ) → length s ≤ 2 * i + 1 → octets (drop (2 * i) s) ≡ []
octets-ends s i h = octets_end (drop (2 * i) s) (rw length-drop (omega arith))
