-- Laws of bits, each for every width.
use Rattle.std.specs.Prelude.{ℕ, zero, suc, ◌+◌, ◌*◌, ◌/◌, ◌%◌, ◌^◌, ◌≤◌, ◌<◌, ◌≡◌, refl, Bool, true, false, List, [], ◌∷◌, ◌++◌, length, take, drop, get_or}
use Rattle.std.proofs.Common.{le_of_suc-le-suc, not-suc-le-zero, mod-lt, mod-eq_of_lt, pow-suc, mul_comm, add_comm, mul_assoc, add_assoc, add-mul, zero-add, suc-add, lt_of_lt_of_le, one-add, arith, sym, ap, ◌∙◌, append_assoc, length-append, length-drop, length-take, lit<, pow_pos, pow_mono, pow-add, shr-shr, drop_at, take_at, drop-drop, drop-cons}
use Rattle.std.proofs.Math.Nat.{mod-one, mul-add-div_right, mul-add-mod_self_right, min-le_left}
use Rattle.std.proofs.Math.Arith.{digits_lt}
use Rattle.std.proofs.Math.Pow.{split, high}
use Rattle.std.proofs.lemmas.Nat.{mod-pow-add}
use Rattle.std.proofs.Math.Seq.{drop-append-add, take-append-add, drop-nil, take-nil}
use Rattle.std.proofs.lemmas.List.{drop-append-le, take-append-le}
use Rattle.bits.specs.Bits.{Bits, bit, positive, odd, number, digits, bits_of}

two_pos : 0 < 2
two_pos = lit< tt

bit-positive : (r : ℕ) → r < 2 → bit (positive r) ≡ r
bit-positive zero h = refl
bit-positive (suc zero) h = refl
bit-positive (suc (suc r)) h = absurd (not-suc-le-zero (le_of_suc-le-suc (le_of_suc-le-suc h)))

pub bit-odd : (n : ℕ) → bit (odd n) ≡ n % 2
bit-odd n = bit-positive (n % 2) (mod-lt n two_pos)

pub odd-bit : (b : Bool) → odd (bit b) ≡ b
odd-bit false = refl
odd-bit true = refl

pub bit_lt : (b : Bool) → bit b < 2
bit_lt false = lit< tt
bit_lt true = lit< tt

odd-add : (a v : ℕ) → odd (a * 2 + v) ≡ odd v
odd-add a v = ap positive (mul-add-mod_self_right a 2 v)

pub number_lt : (bs : Bits) → number bs < 2 ^ length bs
unfolding number
number_lt [] = lit< tt
number_lt (b ∷ bs) = rw (pow-suc 2 (length bs), mul_comm (2 ^ length bs) 2) (digits_lt (bit_lt b) (number_lt bs))

pub number-take_lt : (n : ℕ) (bs : Bits) → number (take n bs) < 2 ^ n
number-take_lt n bs = lt_of_lt_of_le (number_lt (take n bs)) (pow_mono (rw (length-take n bs) (min-le_left n (length bs))))

pub length_digits : (w v : ℕ) → length (digits w v) ≡ w
unfolding digits
length_digits zero v = refl
length_digits (suc w) v = ap suc (length_digits w v)

pub number_digits-mod : (w v : ℕ) → number (digits w v) ≡ v % 2 ^ w
unfolding number digits
number_digits-mod zero v = sym (mod-one v)
number_digits-mod (suc w) v =
    rw (length_digits w v, number_digits-mod w v, bit-odd (v / 2 ^ w), ← one-add w) (sym (mod-pow-add v 1 w))

pub number_digits : (w v : ℕ) → v < 2 ^ w → number (digits w v) ≡ v
number_digits w v h = number_digits-mod w v ∙ mod-eq_of_lt h

-- what stands above the low w digits does not matter
pub digits-add : (w a v : ℕ) → digits w (a * 2 ^ w + v) ≡ digits w v
unfolding digits
digits-add zero a v = refl
digits-add (suc w) a v =
    let e : a * 2 ^ suc w ≡ a * 2 * 2 ^ w = rw (pow-suc 2 w, mul_comm (2 ^ w) 2) (sym (mul_assoc a 2 (2 ^ w))) in
    rw (e, mul-add-div_right (pow_pos w) (a * 2) v, odd-add a (v / 2 ^ w), digits-add w (a * 2) v)

pub digits_mod : (w v : ℕ) → digits w (v % 2 ^ w) ≡ digits w v
digits_mod w v = sym (digits-add w (v / 2 ^ w) (v % 2 ^ w)) ∙ ap (digits w) (split v w)

pub digits_number : (bs : Bits) → digits (length bs) (number bs) ≡ bs
unfolding number digits
digits_number [] = refl
digits_number (b ∷ bs) =
    rw (high (bit b) (length bs) (number_lt bs), odd-bit b, digits-add (length bs) (bit b) (number bs), digits_number bs)

pub digits_append : (j k v : ℕ) → digits (j + k) v ≡ digits j (v / 2 ^ k) ++ digits k v
unfolding digits
digits_append zero k v = ap (λ (n : ℕ). digits n v) (zero-add k)
digits_append (suc j) k v =
    rw (suc-add j k, digits_append j k v, shr-shr v k j, add_comm k j)

pub number_append : (a b : Bits) → number (a ++ b) ≡ number a * 2 ^ length b + number b
unfolding number
number_append [] b = omega arith
number_append (x ∷ a) b =
    rw (number_append a b, length-append a b, pow-add 2 (length a) (length b))
    (rw (add-mul (bit x * 2 ^ length a) (number a) (2 ^ length b), mul_assoc (bit x) (2 ^ length a) (2 ^ length b))
    (sym (add_assoc (bit x * (2 ^ length a * 2 ^ length b)) (number a * 2 ^ length b) (number b))))

pub length-bits_of : (os : List ℕ) → length (bits_of os) ≡ 8 * length os
unfolding bits_of
length-bits_of [] = refl
length-bits_of (o ∷ os) = rw (length-append (digits 8 o) (bits_of os), length_digits 8 o, length-bits_of os) (omega arith)

pub bits_of-append : (a b : List ℕ) → bits_of (a ++ b) ≡ bits_of a ++ bits_of b
unfolding bits_of
bits_of-append [] b = refl
bits_of-append (o ∷ a) b = rw (bits_of-append a b) (sym (append_assoc (digits 8 o) (bits_of a) (bits_of b)))

one_more : (o n : ℕ) → 8 * suc n ≡ length (digits 8 o) + 8 * n
one_more o n = rw (length_digits 8 o) (omega arith)

pub drop-bits_of : (n : ℕ) (os : List ℕ) → drop (8 * n) (bits_of os) ≡ bits_of (drop n os)
unfolding bits_of
drop-bits_of zero os = refl
drop-bits_of (suc n) [] = drop-nil (8 * suc n)
drop-bits_of (suc n) (o ∷ os) =
    rw (one_more o n) (drop-append-add (digits 8 o) (bits_of os) (8 * n) ∙ drop-bits_of n os)

pub take-bits_of : (n : ℕ) (os : List ℕ) → take (8 * n) (bits_of os) ≡ bits_of (take n os)
unfolding bits_of
take-bits_of zero os = refl
take-bits_of (suc n) [] = take-nil (8 * suc n)
take-bits_of (suc n) (o ∷ os) =
    rw (one_more o n) (take-append-add (digits 8 o) (bits_of os) (8 * n) ∙ ap (λ (r : Bits). digits 8 o ++ r) (take-bits_of n os))

-- n digits from digit s on, of s + (n + t)
pub part-digits : (s n t v : ℕ) → take n (drop s (digits (s + (n + t)) v)) ≡ digits n (v / 2 ^ t)
part-digits s n t v =
    rw (digits_append s (n + t) v, drop_at (digits s (v / 2 ^ (n + t))) (digits (n + t) v) s (length_digits s (v / 2 ^ (n + t))))
    (rw (digits_append n t v) (take_at (digits n (v / 2 ^ t)) (digits t v) n (length_digits n (v / 2 ^ t))))

-- n bits from bit s on of octet q, where n bits and t more are left in the octet
pub part-bits_of : (os : List ℕ) (q s n t : ℕ) → q < length os → s + (n + t) ≡ 8
    → take n (drop (8 * q + s) (bits_of os)) ≡ digits n (get_or os q 0 / 2 ^ t)
unfolding bits_of
part-bits_of os q s n t h e =
    let o : ℕ = get_or os q 0 in
    let hs : s ≤ length (digits 8 o) = rw (length_digits 8 o) (omega arith) in
    let hn : n ≤ length (drop s (digits 8 o)) = rw (length-drop s (digits 8 o), length_digits 8 o) (omega arith) in
    rw (← drop-drop s (8 * q) (bits_of os), drop-bits_of q os, drop-cons os q 0 h)
    (rw (drop-append-le s (digits 8 o) (bits_of (drop (suc q) os)) hs, take-append-le n (drop s (digits 8 o)) (bits_of (drop (suc q) os)) hn, ← e)
    (part-digits s n t o))
