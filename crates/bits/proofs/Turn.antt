-- One more octet of a field: of a read, and of a write. Assumes nothing.
use Prim.Native.Nat.{ℕ, ◌+◌, ◌-◌, ◌*◌, ◌/◌, ◌%◌, ◌^◌, ◌≤◌, ◌<◌}
use native.Mathlib.Nat.{zero-add, mod-lt, div-one}
use native.Mathlib.Omega.{arith}
use mathlib.Core.Path.{◌≡◌, sym, ap, ap₂, ◌∙◌, subst}
use mathlib.Core.List.{List, ◌++◌, append_assoc}
use lib.ListN.{length, take, drop, get_or, set}
use lib.Arith.{digits_lt}
use lib.Pow.{pow_pos, pow-add, field, shr_lt, shr-shr, shr_mod}
use lib.Bits.{bit_or}
use lib.Seq.{take-add, drop-drop}
use Rattle.bits.specs.Bits.{Bits, number, digits, bits_of}
use Rattle.bits.specs.BitsLaws.{number_lt, number-take_lt, number_append, number_digits, number_digits-mod, length_digits, digits_append, part-bits_of}
use Rattle.bits.specs.Placed.{field_at}
use Rattle.bits.specs.Written.{splice, put_bits}
use Rattle.bits.specs.WrittenLaws.{Octets, splice-mid, length-splice, length-put_bits, octets-put_bits, put_bits_octet, put_bits-put_bits}
use Rattle.bits.proofs.Shifts.{shift_or}

-- n bits of the first octet, from bit s on
pub field-first : (os : List ℕ) (s n : ℕ) → 0 < length os → s + n ≤ 8 → get_or os 0 0 % 2 ^ (8 - s) / 2 ^ (8 - (s + n)) ≡ field_at os s n
field-first os s n h k =
    let o : ℕ = get_or os 0 0 in
    let t : ℕ = 8 - (s + n) in
    let e : 8 - s ≡ n + t = omega arith in
    ap (λ (m : ℕ). o % 2 ^ m / 2 ^ t) e
    ∙ field o n t
    ∙ sym (number_digits-mod n (o / 2 ^ t))
    ∙ ap number (sym (part-bits_of os 0 s n t h (omega arith)))
    ∙ ap (λ (m : ℕ). field_at os m n) (zero-add s)

-- `(v << n) | (o >> t)`: d bits of a field, and the first n bits of the next octet
pub field-more : (os : List ℕ) (from q d n t v : ℕ) → q < length os → n + t ≡ 8 → from + d ≡ 8 * q → d + n ≤ 64 → get_or os q 0 < 2 ^ 8
    → v ≡ field_at os from d → bit_or ((v * 2 ^ n) % 2 ^ 64) (get_or os q 0 / 2 ^ t) ≡ field_at os from (d + n)
field-more os from q d n t v h e p k ho ev =
    let o : ℕ = get_or os q 0 in
    let small : o < 2 ^ (n + t) = rw e ho in
    let there : from + d ≡ 8 * q + 0 = omega arith in
    shift_or v d n (o / 2 ^ t) (rw ev (number-take_lt d (drop from (bits_of os)))) k (shr_lt n t small)
    ∙ rw (ev, take-add d n (drop from (bits_of os)), drop-drop d from (bits_of os), there, part-bits_of os q 0 n t h (omega arith))
    (rw (number_append (take d (drop from (bits_of os))) (digits n (o / 2 ^ t)), length_digits n (o / 2 ^ t), number_digits-mod n (o / 2 ^ t), shr_mod n t small))

-- an octet with other bits in the place of n of its own, by shifts
pub patch_shifts : (o s n t c : ℕ) → s + (n + t) ≡ 8 → o < 2 ^ 8 → c < 2 ^ n
    → bit_or ((bit_or ((o / 2 ^ (n + t) * 2 ^ n) % 2 ^ 64) c * 2 ^ t) % 2 ^ 64) (o % 2 ^ t) ≡ number (splice (digits 8 o) s (digits n c))
patch_shifts o s n t c e ho hc =
    let hi : ℕ = o / 2 ^ (n + t) in
    let top : hi < 2 ^ s = shr_lt s (n + t) (rw e ho) in
    let two : hi * 2 ^ n + c < 2 ^ (s + n) = subst (λ (m : ℕ). hi * 2 ^ n + c < m) (sym (pow-add 2 s n)) (digits_lt top hc) in
    let parts : digits 8 o ≡ digits s hi ++ (digits n (o / 2 ^ t) ++ digits t o) =
    ap (λ (m : ℕ). digits m o) (sym e) ∙ digits_append s (n + t) o ∙ ap (λ (bs : Bits). digits s hi ++ bs) (digits_append n t o) in
    rw (shift_or hi s n c top (omega arith) hc, shift_or (hi * 2 ^ n + c) (s + n) t (o % 2 ^ t) two (omega arith) (mod-lt o (pow_pos t)))
    (sym (ap (λ (bs : Bits). number (splice bs s (digits n c))) parts
    ∙ ap number (splice-mid (digits s hi) (digits n (o / 2 ^ t)) (digits t o) (digits n c) s
    (length_digits s hi) (length_digits n c ∙ sym (length_digits n (o / 2 ^ t))))
    ∙ rw (
      ← append_assoc (digits s hi) (digits n c) (digits t o),
      number_append (digits s hi ++ digits n c) (digits t o),
      number_append (digits s hi) (digits n c),
      length_digits n c,
      length_digits t o,
      number_digits s hi top,
      number_digits n c hc,
      number_digits-mod t o,
    )))

pub patch_lt : (o s n c : ℕ) → s + n ≤ 8 → number (splice (digits 8 o) s (digits n c)) < 2 ^ 8
patch_lt o s n c h =
    let ld : length (digits 8 o) ≡ 8 = length_digits 8 o in
    let ln : length (digits n c) ≡ n = length_digits n c in
    let l : length (splice (digits 8 o) s (digits n c)) ≡ 8 = length-splice (digits 8 o) s (digits n c) (omega arith) ∙ ld in
    subst (λ (m : ℕ). number (splice (digits 8 o) s (digits n c)) < 2 ^ m) l (number_lt (splice (digits 8 o) s (digits n c)))

-- n digits of x in the first octet, from bit s on
pub put_first : (os : List ℕ) (s n x r : ℕ) → 0 < length os → s + n ≤ 8 → Octets os → r ≡ number (splice (digits 8 (get_or os 0 0)) s (digits n x))
    → set os 0 r ≡ put_bits os s (digits n x)
put_first os s n x r h k o e =
    rw e (put_bits_octet os 0 s (digits n x) h (rw (length_digits n x) k) o ∙ ap (λ (m : ℕ). put_bits os m (digits n x)) (zero-add s))

-- m of the w digits of v are left: the first n of these, in octet q, leave l
pub put-more : (os₀ os : List ℕ) (from w v q m n l : ℕ) → from + w ≤ 8 * length os → m ≤ w → m ≡ n + l → 0 < n → n ≤ 8 → from + w ≡ 8 * q + m
    → os ≡ put_bits os₀ from (digits (w - m) (v / 2 ^ m))
    → set os q (number (splice (digits 8 (get_or os q 0)) 0 (digits n (v / 2 ^ l)))) ≡ put_bits os₀ from (digits (w - l) (v / 2 ^ l))
put-more os₀ os from w v q m n l room h sum pos k p e =
    let d : ℕ = w - m in
    let xs : Bits = digits d (v / 2 ^ m) in
    let ys : Bits = digits n (v / 2 ^ l) in
    let lx : length xs ≡ d = length_digits d (v / 2 ^ m) in
    let ly : length ys ≡ n = length_digits n (v / 2 ^ l) in
    let lo : length os ≡ length os₀ = ap length e ∙ length-put_bits os₀ from xs in
    let there : 8 * q + 0 ≡ from + length xs = omega arith in
    let e₁ : m ≡ l + n = omega arith in
    let e₂ : d + n ≡ w - l = omega arith in
    put_bits_octet os q 0 ys (omega arith) (omega arith) (rw e (octets-put_bits os₀ from xs))
    ∙ ap₂ (λ (o : List ℕ) (j : ℕ). put_bits o j ys) e there
    ∙ put_bits-put_bits os₀ from xs ys (omega arith)
    ∙ ap (λ (j : ℕ). put_bits os₀ from (digits d j ++ ys)) (ap (λ (j : ℕ). v / 2 ^ j) e₁ ∙ sym (shr-shr v l n))
    ∙ ap (put_bits os₀ from) (sym (digits_append d n (v / 2 ^ l)) ∙ ap (λ (j : ℕ). digits j (v / 2 ^ l)) e₂)

-- all w digits of v: those in the first octet, and then the others, of which z are left
pub put_rest : (os os' : List ℕ) (s w v r z : ℕ) → Octets os → s ≤ 8 → 8 < s + w → s + w ≤ 8 * length os
    → r ≡ number (splice (digits 8 (get_or os 0 0)) s (digits (8 - s) (v / 2 ^ (w - (8 - s))))) → z ≡ 0
    → os' ≡ put_bits (set os 0 r) 8 (digits (w - (8 - s) - z) (v / 2 ^ z)) → os' ≡ put_bits os s (digits w v)
put_rest os os' s w v r z o hs hw room er ez e =
    let h : ℕ = 8 - s in
    let l : ℕ = w - h in
    let xs : Bits = digits h (v / 2 ^ l) in
    let lx : length xs ≡ h = length_digits h (v / 2 ^ l) in
    let there : 8 ≡ s + length xs = omega arith in
    let e₁ : l - z ≡ l = omega arith in
    let e₂ : h + l ≡ w = omega arith in
    e
    ∙ ap₂ (λ (m j : ℕ). put_bits (set os 0 r) 8 (digits m (v / 2 ^ j))) e₁ ez
    ∙ ap (λ (x : ℕ). put_bits (set os 0 r) 8 (digits l x)) (div-one v)
    ∙ ap₂ (λ (os₁ : List ℕ) (m : ℕ). put_bits os₁ m (digits l v)) (put_first os s h (v / 2 ^ l) r (omega arith) (omega arith) o er) there
    ∙ put_bits-put_bits os s xs (digits l v) (omega arith)
    ∙ ap (put_bits os s) (sym (digits_append h l v) ∙ ap (λ (m : ℕ). digits m v) e₂)
