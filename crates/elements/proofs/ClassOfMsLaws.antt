-- Laws of numbers one after the other, and of the class of MS.
use Rattle.std.specs.Prelude.{ℕ, zero, suc, ◌+◌, ◌*◌, ◌/◌, ◌%◌, ◌^◌, ◌≤◌, ◌<◌, ◌≡◌, refl, Bool, true, false, ◌&&◌, List, [], ◌∷◌, ◌++◌, length, take, drop, get_or, leb}
use Rattle.std.proofs.Common.{mul_assoc, mod-eq_of_lt, div-one, arith, sym, ap, subst, ◌∙◌, append_assoc, append-nil, length-drop, leb-true, leb-false, pow_pos, pow-add, length-take-le, take-add, drop-drop}
use Rattle.std.proofs.Math.Nat.{mul-add-div_right, mul-add-mod_self_right}
use Rattle.std.proofs.Math.Pow.{high}
use Rattle.bits.specs.PduParseError.{buffer_ended}
use Rattle.bits.specs.Bits.{Bits, number, digits}
use Rattle.bits.specs.BitsLaws.{number_lt, number_append}
use Rattle.bits.specs.Reader.{Reader, got, refused, ◌>>=◌, field, Local}
use Rattle.bits.specs.ReaderLaws.{then-then, then_same, local·rules, local_tail, got-local, bind_local, field-local, field-enough, field-short, Passes, field-passes, got-passes, bind_passes}
use Rattle.bits.specs.Placed.{window, placed, halted}
use Rattle.bits.specs.PlacedLaws.{Gives, step, stop, done}
use Rattle.bits.specs.PlacedTimes.{alike}
use Rattle.bits.specs.Written.{Holds, Joined}
use Rattle.bits.specs.DigitsLaws.{◌▹◌}
use Rattle.bits.specs.declared.bitbuffer.Cursor.{Cursor}
use Rattle.bits.specs.declared.bitbuffer.Digits.{Digits}
use Rattle.elements.specs.Numbers.{in_width}
use Rattle.elements.proofs.NumbersLaws.{both, number-back}
use Rattle.elements.specs.ClassOfMs.{sum, split, numbers, numbers_bits, numbers_fit, class_widths, class_fields, class_of, class_of_ms_element, class_bits, class_fits}
use Rattle.elements.specs.declared.class_of_ms.ClassOfMs.{ClassOfMs}
use Rattle.bits.specs.declared.pdu_parse_error.PduParseErr.{PduParseErr}

-- ## local, and read back

pub numbers-local : (ws : List ℕ) → Local (numbers ws)
unfolding numbers
numbers-local [] = got-local []
numbers-local (w ∷ ws) = bind_local (field w) _ (field-local w) (λ v. bind_local (numbers ws) _ (numbers-local ws) (λ vs. got-local (v ∷ vs)))

pub numbers-back : (ws vs : List ℕ) → length ws ≡ length vs → numbers_fit ws vs ≡ true → (rest : Bits)
    → numbers ws (numbers_bits ws vs ++ rest) ≡ got vs rest
unfolding numbers numbers_bits numbers_fit
numbers-back [] [] l f rest = refl
numbers-back [] (v ∷ vs) l f rest = absurd (omega arith)
numbers-back (w ∷ ws) [] l f rest = absurd (omega arith)
numbers-back (w ∷ ws) (v ∷ vs) l f rest =
    let x = both (in_width w v) (numbers_fit ws vs) f in
    rw (append_assoc (digits w v) (numbers_bits ws vs) rest)
    (rw (number-back w v x.0 (numbers_bits ws vs ++ rest))
    (rw (numbers-back ws vs (omega arith) x.1 rest)))

pub class-local : Local class_of_ms_element
unfolding class_of_ms_element
class-local = search (local·rules, numbers-local)

pub class_back : (m : ClassOfMs) → class_fits m ≡ true → (rest : Bits) → class_of_ms_element (class_bits m ++ rest) ≡ got m rest
unfolding class_of_ms_element class_bits class_fits
class_back m f rest = rw (numbers-back class_widths (class_fields m) refl f rest)

-- ## written one after the other

numbers_more : (ws vs : List ℕ) (i a b : ℕ) → i < length ws → i < length vs
    → numbers_bits (take i ws) (take i vs) ++ digits (get_or ws i a) (get_or vs i b) ≡ numbers_bits (take (suc i) ws) (take (suc i) vs)
unfolding numbers_bits
numbers_more [] vs i a b h k = absurd (omega arith)
numbers_more (w ∷ ws) [] i a b h k = absurd (omega arith)
numbers_more (w ∷ ws) (v ∷ vs) zero a b h k = sym (append-nil (digits w v))
numbers_more (w ∷ ws) (v ∷ vs) (suc i) a b h k =
    append_assoc (digits w v) (numbers_bits (take i ws) (take i vs)) (digits (get_or ws i a) (get_or vs i b))
    ∙ ap (λ (xs : Bits). digits w v ++ xs) (numbers_more ws vs i a b (omega arith) (omega arith))

-- one more, behind what stands before
pub one_number : {d r : Digits} (xs : Bits) (ws vs : List ℕ) (i a b : ℕ) → i < length ws → i < length vs
    → Holds d (xs ++ numbers_bits (take i ws) (take i vs)) → Joined d (digits (get_or ws i a) (get_or vs i b)) r
    → Holds r (xs ++ numbers_bits (take (i + 1) ws) (take (i + 1) vs))
one_number xs ws vs i a b h k e p =
    let z : i + 1 ≡ suc i = omega arith in
    rw (z, ← numbers_more ws vs i a b h k, ← append_assoc xs (numbers_bits (take i ws) (take i vs)) (digits (get_or ws i a) (get_or vs i b))) (e ▹ p)

-- ## asked one after the other

-- behind what was answered before
unfoldable pub still_fit : Bool → List ℕ → List ℕ → Bool
still_fit b [] vs = b
still_fit b (w ∷ ws) [] = b
still_fit b (w ∷ ws) (v ∷ vs) = still_fit (b && in_width w v) ws vs

pub still_fit_lem : (b : Bool) (ws vs : List ℕ) → still_fit b ws vs ≡ (b && numbers_fit ws vs)
unfolding still_fit numbers_fit
still_fit_lem true [] vs = refl
still_fit_lem false [] vs = refl
still_fit_lem true (w ∷ ws) [] = refl
still_fit_lem false (w ∷ ws) [] = refl
still_fit_lem true (w ∷ ws) (v ∷ vs) = still_fit_lem (in_width w v) ws vs
still_fit_lem false (w ∷ ws) (v ∷ vs) = still_fit_lem false ws vs

-- ## numbers as parts of one word

-- what stands above them does not matter
split-add : (ws : List ℕ) (a v : ℕ) → split ws (a * 2 ^ sum ws + v) ≡ split ws v
unfolding sum split
split-add [] a v = refl
split-add (w ∷ ws) a v =
    let e : a * 2 ^ (w + sum ws) ≡ a * 2 ^ w * 2 ^ sum ws = rw (pow-add 2 w (sum ws)) (sym (mul_assoc a (2 ^ w) (2 ^ sum ws))) in
    rw (e, mul-add-div_right (pow_pos (sum ws)) (a * 2 ^ w) v, mul-add-mod_self_right a (2 ^ w) (v / 2 ^ sum ws), split-add ws (a * 2 ^ w) v)

numbers-passes : (ws : List ℕ) → Passes (sum ws) (numbers ws)
unfolding numbers sum
numbers-passes [] = got-passes []
numbers-passes (w ∷ ws) =
    bind_passes w (sum ws) (field w) _ refl (field-passes w)
    (λ v. bind_passes (sum ws) 0 (numbers ws) _ (omega arith) (numbers-passes ws) (λ vs. got-passes (v ∷ vs)))

-- the class of MS has 24 bits
pub class-passes : Passes 24 class_of_ms_element
unfolding class_of_ms_element sum
class-passes = bind_passes 24 0 (numbers class_widths) _ refl (numbers-passes class_widths) (λ vs. got-passes _)

-- where the bits reach, the numbers are those that stand in the number that the first bits write
pub numbers-enough : (ws : List ℕ) (bs : Bits) → sum ws ≤ length bs → numbers ws bs ≡ got (split ws (number (take (sum ws) bs))) (drop (sum ws) bs)
unfolding numbers sum split
numbers-enough [] bs h = refl
numbers-enough (w ∷ ws) bs h =
    let n : ℕ = sum ws in
    let hi : Bits = take w bs in
    let lo : Bits = take n (drop w bs) in
    let enough : n ≤ length (drop w bs) = omega (arith, length-drop w bs) in
    let long : length lo ≡ n = length-take-le n (drop w bs) enough in
    let hi-lt : number hi < 2 ^ w = subst (λ (m : ℕ). number hi < 2 ^ m) (length-take-le w bs (omega arith)) (number_lt hi) in
    let lo-lt : number lo < 2 ^ n = subst (λ (m : ℕ). number lo < 2 ^ m) long (number_lt lo) in
    let e : number (take (w + n) bs) ≡ number hi * 2 ^ n + number lo = rw (take-add w n bs, number_append hi lo, long) in
    rw (field-enough w bs (omega arith))
    (rw (numbers-enough ws (drop w bs) enough)
    (rw (drop-drop n w bs, e, high (number hi) n lo-lt, mod-eq_of_lt hi-lt, split-add ws (number hi) (number lo))))

-- where they do not, the numbers are refused
pub numbers-short : (ws : List ℕ) (bs : Bits) → length bs < sum ws → numbers ws bs ≡ refused buffer_ended
unfolding numbers sum
numbers-short [] bs h = absurd (omega arith)
numbers-short (w ∷ ws) bs h = go (leb w (length bs)) refl (numbers-short ws (drop w bs))
  where
    go : (b : Bool) → leb w (length bs) ≡ b → (length (drop w bs) < sum ws → numbers ws (drop w bs) ≡ refused buffer_ended)
        → numbers (w ∷ ws) bs ≡ refused buffer_ended
    go true e more = rw (field-enough w bs (leb-true _ _ e), more (omega (arith, length-drop w bs, leb-true w (length bs) e)))
    go false e more = rw (field-short w bs (leb-false _ _ e))

-- numbers one after the other are one field, split; and so is what is made of them
numbers-word : (ws : List ℕ) (bs : Bits) → numbers ws bs ≡ (field (sum ws) >>= λ v. got (split ws v)) bs
numbers-word ws bs = go (leb (sum ws) (length bs)) refl
  where
    go : (b : Bool) → leb (sum ws) (length bs) ≡ b → numbers ws bs ≡ (field (sum ws) >>= λ v. got (split ws v)) bs
    go true e = let h : sum ws ≤ length bs = leb-true _ _ e in rw (field-enough (sum ws) bs h) (numbers-enough ws bs h)
    go false e = let h : length bs < sum ws = leb-false _ _ e in rw (field-short (sum ws) bs h) (numbers-short ws bs h)

pub numbers_as : {A : Type 0} (ws : List ℕ) (f : List ℕ → A) (bs : Bits)
    → (numbers ws >>= λ vs. got (f vs)) bs ≡ (field (sum ws) >>= λ v. got (f (split ws v))) bs
numbers_as ws f bs = rw (numbers-word ws bs) (then-then (field (sum ws) bs) _ _)

-- the first of some numbers, and the others
pub numbers-first : {B : Type 0} (w : ℕ) (ws : List ℕ) (f : List ℕ → Reader B) (bs : Bits)
    → (numbers (w ∷ ws) >>= f) bs ≡ (field w >>= λ v. numbers ws >>= λ vs. f (v ∷ vs)) bs
unfolding numbers
numbers-first w ws f bs = then-then (field w bs) _ f ∙ then_same (field w bs) (λ v rest. then-then (numbers ws rest) _ f)

-- ## the class of MS is one field of 24 bits, split

class_word_lem : (bs : Bits) → class_of_ms_element bs ≡ (field 24 >>= λ v. got (class_of (split class_widths v))) bs
unfolding class_of_ms_element sum
class_word_lem = numbers_as class_widths class_of

module _ {os : List ℕ} {c : Cursor} where
  pub class-there : {v : ℕ} {k : Cursor} → Gives (field 24) os c (placed v k) → Gives class_of_ms_element os c (placed (class_of (split class_widths v)) k)
  class-there e = alike _ (class_word_lem (window os c)) (step (λ v. got (class_of (split class_widths v))) e (local_tail (field-local 24)) done)

  pub class-ended : {n : PduParseErr} → Gives (field 24) os c (halted n) → Gives class_of_ms_element os c (halted n)
  class-ended e = alike _ (class_word_lem (window os c)) (stop (λ v. got (class_of (split class_widths v))) e)

-- the fields of a word
pub class_fields_lem : (v : ℕ) → record {
  freq_simplex_duplex = v / 8388608 % 2;
  multislot_phase_mod = v / 4194304 % 2;
  concurrent_multicarrier = v / 2097152 % 2;
  voice = v / 1048576 % 2;
  e2e_encryption_not_supported = v / 524288 % 2;
  circuit_mode_data = v / 262144 % 2;
  tetra_packet_data = v / 131072 % 2;
  fast_switching = v / 65536 % 2;
  dck_encryption = v / 32768 % 2;
  clch_needed = v / 16384 % 2;
  concurrent_circuit_mode = v / 8192 % 2;
  original_advanced_link = v / 4096 % 2;
  minimum_mode = v / 2048 % 2;
  carrier_specific_signalling = v / 1024 % 2;
  authentication = v / 512 % 2;
  sck_encryption = v / 256 % 2;
  air_interface_version = v / 32 % 8;
  common_scch = v / 16 % 2;
  reserved_21 = v / 8 % 2;
  mac_d_blck = v / 4 % 2;
  extended_advanced_link = v / 2 % 2;
  d8psk = v % 2;
} ≡ class_of (split class_widths v)
unfolding sum split
class_fields_lem v = rw (div-one v)
