-- Fields put one after the other: where there is room for all of them, they are one write.
use Rattle.std.specs.Prelude.{ℕ, ◌+◌, ◌≤◌, ◌≡◌, refl, List, [], ◌∷◌, ◌++◌, length}
use Rattle.std.proofs.Common.{add_assoc, arith, sym, ap, ap₂, ◌∙◌, append_assoc, length-append, le-leb}
use Rattle.bits.specs.Bits.{Bits}
use Rattle.bits.specs.Placed.{left, onward}
use Rattle.bits.specs.Written.{Spot, spot, put_bits, put, put_digits, joined, puts, Holds}
use Rattle.bits.specs.WrittenLaws.{Octets, octets-put_bits, length-put_bits, put_bits-put_bits, put_bits-nil}
use Rattle.bits.specs.DigitsLaws.{holds-few}
use Rattle.bits.specs.declared.bitbuffer.Cursor.{Cursor}
use Rattle.bits.specs.declared.bitbuffer.Digits.{Digits}

-- t is s with xss put
pub record Puts (xss : List Bits) (s t : Spot) : Type 0 where
  pub is : t ≡ puts xss s

puts-append : (xss yss : List Bits) (s : Spot) → puts (xss ++ yss) s ≡ puts yss (puts xss s)
unfolding puts
puts-append [] yss s = refl
puts-append (xs ∷ xss) yss s = puts-append xss yss (put xs s)

pub joined-append : (xss yss : List Bits) → joined (xss ++ yss) ≡ joined xss ++ joined yss
unfolding joined
joined-append [] yss = refl
joined-append (xs ∷ xss) yss = ap (λ (ys : Bits). xs ++ ys) (joined-append xss yss) ∙ sym (append_assoc xs (joined xss) (joined yss))

infixr 5 ◌⨾◌
pub ◌⨾◌ : {xss yss : List Bits} {s t u : Spot} → Puts xss s t → Puts yss t u → Puts (xss ++ yss) s u
◌⨾◌ {xss} {yss} {s} p q = record { is = q.is ∙ ap (puts yss) p.is ∙ sym (puts-append xss yss s) }

pub nothing : {s : Spot} → Puts [] s s
unfolding puts
nothing = record { is = refl }

-- one field
field_put : {d : Digits} {xs : Bits} → Holds d xs → length xs ≤ 64 → (s : Spot) → put_digits d s ≡ put xs s
field_put {d} {xs} h l s = let e = holds-few h l in rw (e.1, e.0, le-leb _ _ l)

pub field : {d : Digits} {xs : Bits} {s t : Spot} → Holds d xs → length xs ≤ 64 → t ≡ put_digits d s → Puts (xs ∷ []) s t
unfolding puts
field {s = s} h l e = record { is = e ∙ field_put h l s }

put-there : (xs : Bits) (os : List ℕ) (c : Cursor) → length xs ≤ left (length os) c → put xs (spot os c) ≡ spot (put_bits os c.at xs) (onward (length xs) c)
unfolding put
put-there xs os c h = rw (le-leb _ _ h)

-- WITH ROOM FOR ALL, they are one write
all_put : (xss : List Bits) (os : List ℕ) (c : Cursor) → Octets os → length (joined xss) ≤ left (length os) c
    → puts xss (spot os c) ≡ spot (put_bits os c.at (joined xss)) (onward (length (joined xss)) c)
unfolding puts joined
all_put [] os c o h = let z : c.at + 0 ≡ c.at = omega arith in rw (put_bits-nil os c.at o, z)
all_put (xs ∷ xss) os c o h =
    let ys : Bits = joined xss in
    let n : length (xs ++ ys) ≡ length xs + length ys = length-append xs ys in
    let os₁ : List ℕ = put_bits os c.at xs in
    let k : Cursor = onward (length xs) c in
    let l : length os₁ ≡ length os = length-put_bits os c.at xs in
    let r : length ys ≤ left (length os₁) k = rw l (omega arith) in
    ap (puts xss) (put-there xs os c (omega arith)) ∙ all_put xss os₁ k (octets-put_bits os c.at xs) r
    ∙ ap₂ (λ (o : List ℕ) (m : ℕ). spot o (record { at = m; end = c.end }))
    (put_bits-put_bits os c.at xs ys (omega arith)) (add_assoc c.at (length xs) (length ys) ∙ ap (λ (m : ℕ). c.at + m) (sym n))

pub all-put : {xss : List Bits} {os : List ℕ} {c : Cursor} {t : Spot} (xs : Bits) → Octets os → joined xss ≡ xs → length xs ≤ left (length os) c
    → Puts xss (spot os c) t → t ≡ spot (put_bits os c.at xs) (onward (length xs) c)
all-put {xss} {os} {c} xs o e h p = p.is ∙ all_put xss os c o (rw e h) ∙ rw e
