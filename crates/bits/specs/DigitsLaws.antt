-- Bits that are written as one field, and fields that are written one after the other.
use Rattle.std.specs.Prelude.{ℕ, ◌+◌, ◌*◌, ◌%◌, ◌^◌, ◌≤◌, ◌<◌, ◌≡◌, refl, Bool, true, false, [], ◌++◌, length, leb}
use Rattle.std.proofs.Common.{arith, sym, ap, ap₂, ◌∙◌, append_assoc, length-append, lit<, le-leb, leb-true, leb-false}
use Rattle.std.proofs.lemmas.Bool.{lt-leb}
use Rattle.bits.specs.Bits.{Bits, number, digits}
use Rattle.bits.specs.BitsLaws.{length_digits, number_digits-mod, digits_number, number_append}
use Rattle.bits.specs.Written.{bits_in, too_wide, digits_in, Holds, Joined}
use Rattle.bits.specs.declared.bitbuffer.Digits.{Digits}

module _ (xs : Bits) where
  pub digits-few : length xs ≤ 64 → digits_in xs ≡ record { value = number xs; width = length xs }
  unfolding digits_in
  digits-few h = rw (le-leb _ _ h)

  pub digits-many : 64 < length xs → digits_in xs ≡ too_wide
  unfolding digits_in
  digits-many h = rw (lt-leb _ _ h)

-- two numbers as one
pub digits_two : (d : Digits) (w v : ℕ) → d.width + w ≤ 64
    → digits_in (bits_in d ++ digits w v) ≡ record { value = (d.value % 2 ^ d.width) * 2 ^ w + v % 2 ^ w; width = d.width + w }
digits_two d w v h =
    let n : length (bits_in d ++ digits w v) ≡ d.width + w =
    length-append (bits_in d) (digits w v) ∙ ap₂ (λ (a b : ℕ). a + b) (length_digits d.width d.value) (length_digits w v) in
    let e : number (bits_in d ++ digits w v) ≡ (d.value % 2 ^ d.width) * 2 ^ w + v % 2 ^ w =
    number_append (bits_in d) (digits w v)
    ∙ rw (number_digits-mod d.width d.value, number_digits-mod w v, length_digits w v) in
    digits-few (bits_in d ++ digits w v) (omega arith) ∙ rw (n, e)

pub digits_two_many : (d : Digits) (w v : ℕ) → 64 < d.width + w → digits_in (bits_in d ++ digits w v) ≡ too_wide
digits_two_many d w v h =
    digits-many (bits_in d ++ digits w v)
    (rw (length-append (bits_in d) (digits w v), length_digits d.width d.value, length_digits w v) h)

many_more : (xs ys : Bits) → 64 < length xs → digits_in (xs ++ ys) ≡ too_wide
many_more xs ys h = let n : length (xs ++ ys) ≡ length xs + length ys = length-append xs ys in digits-many (xs ++ ys) (omega arith)

pub no_digits : Holds (record { value = 0; width = 0 }) []
unfolding digits_in number
no_digits = record { is = refl }

-- MORE BITS BEHIND
infixl 6 ◌▹◌
pub ◌▹◌ : {d r : Digits} {xs ys : Bits} → Holds d xs → Joined d ys r → Holds r (xs ++ ys)
◌▹◌ {d} {r} {xs} {ys} e p = record { is = p.is ∙ rw e.is (go (leb (length xs) 64) refl) }
  where
    go : (b : Bool) → leb (length xs) 64 ≡ b → digits_in (bits_in (digits_in xs) ++ ys) ≡ digits_in (xs ++ ys)
    go true h =
        ap (λ (d : Digits). digits_in (bits_in d ++ ys)) (digits-few xs (leb-true _ _ h))
        ∙ ap (λ (zs : Bits). digits_in (zs ++ ys)) (digits_number xs)
    go false h =
        ap (λ (d : Digits). digits_in (bits_in d ++ ys)) (digits-many xs (leb-false _ _ h))
        ∙ many_more (bits_in too_wide) ys (rw (length_digits 65 0) (lit< tt)) ∙ sym (many_more xs ys (leb-false _ _ h))

-- what at most 64 bits are held as
pub holds-few : {d : Digits} {xs : Bits} → Holds d xs → length xs ≤ 64 → (d.width ≡ length xs) × (bits_in d ≡ xs)
holds-few {d} {xs} h l =
    let e = h.is ∙ digits-few xs l in
    (ap (λ (x : Digits). x.width) e, ap bits_in e ∙ digits_number xs)

pub behind : {d r : Digits} {xs : Bits} → Joined d xs r → Holds r (bits_in d ++ xs)
behind p = record { is = p.is }

pub joined-twice : {d e r : Digits} {xs ys : Bits} → Joined d xs e → Joined e ys r → Joined d (xs ++ ys) r
joined-twice {d} {e} {r} {xs} {ys} p q =
    let k : Holds r ((bits_in d ++ xs) ++ ys) = behind p ▹ q in
    record { is = k.is ∙ ap digits_in (append_assoc (bits_in d) xs ys) }
