-- Bits written in the place of others: what was written is found again, and every other bit is kept.
use Rattle.std.specs.Prelude.{ℕ, zero, suc, ◌+◌, ◌-◌, ◌*◌, ◌^◌, ◌≤◌, ◌<◌, ◌≡◌, Bool, get_or, set, leb}
use Rattle.std.proofs.Common.{add_assoc, zero-add, suc-add, ◌∙◌, subst, length-drop, take-append-drop, lit<, take_at, length-take-le, take_all, get_or-drop}
use Rattle.std.proofs.Math.Nat.{add-zero}
use native.Mathlib.Omega.{arith}
use Rattle.std.proofs.Math.Path.{refl, sym, ap, ap₂}
use Rattle.std.proofs.Math.Bool.{true, false, cond}
use mathlib.Core.List.{List, [], ◌∷◌, ◌++◌, append_assoc, append-nil}
use Rattle.std.proofs.Math.ListN.{length, take, drop, length-append, length-take}
use Rattle.std.proofs.Math.Seq.{drop-append-add, take-append-add, drop_at, drop-drop, take-append-le, take-take, drop-length, split_at}
use Rattle.std.proofs.lemmas.List.{drop-append-le, set_split}
use borrow.Author.Tests.{le-leb, lt-leb, lt-ltb, le-ltb, leb-true}
use Rattle.bits.specs.PduParseError.{value_too_large, window_too_short}
use Rattle.bits.specs.Bits.{Bits, number, digits, bits_of}
use Rattle.bits.specs.BitsLaws.{number-take_lt, length_digits, number_digits, digits_number, length-bits_of, bits_of-append}
use Rattle.bits.specs.Placed.{window, left, onward, placed}
use Rattle.bits.specs.PlacedLaws.{halted-placed}
use Rattle.bits.specs.Written.{splice, octets_of, put_bits, unwritten, write, write_field}
use Rattle.bits.specs.declared.bitbuffer.Cursor.{Cursor}

-- each is an octet
abbrev pub Octets : List ℕ → Type 0
Octets os = (i : ℕ) → get_or os i 0 < 256

pub octets-take : (n : ℕ) (os : List ℕ) → Octets os → Octets (take n os)
octets-take zero os h i = lit< tt
octets-take (suc n) [] h i = lit< tt
octets-take (suc n) (o ∷ os) h zero = h 0
octets-take (suc n) (o ∷ os) h (suc i) = octets-take n os (λ j. h (suc j)) i

pub octets-drop : (n : ℕ) (os : List ℕ) → Octets os → Octets (drop n os)
octets-drop n os h i = rw (get_or-drop n os i 0) (h (n + i))

-- ## splice

unfold_splice : (bs : Bits) (from : ℕ) (xs : Bits) → splice bs from xs ≡ take from bs ++ (xs ++ drop (from + length xs) bs)
unfolding splice
unfold_splice bs from xs = refl

pub splice-nil : (bs : Bits) (from : ℕ) → splice bs from [] ≡ bs
unfolding splice
splice-nil bs from = rw (add-zero from) (take-append-drop from bs)

-- past the first list, within it, and in the place of a middle part that is as long
pub splice-add : (d r : Bits) (from : ℕ) (xs : Bits) → splice (d ++ r) (length d + from) xs ≡ d ++ splice r from xs
unfolding splice
splice-add d r from xs =
    rw (take-append-add d r from, add_assoc (length d) from (length xs), drop-append-add d r (from + length xs))
    (append_assoc d (take from r) (xs ++ drop (from + length xs) r))

pub splice_le : (d r : Bits) (from : ℕ) (xs : Bits) → from + length xs ≤ length d → splice (d ++ r) from xs ≡ splice d from xs ++ r
unfolding splice
splice_le d r from xs h =
    rw (take-append-le from d r (omega arith), drop-append-le (from + length xs) d r h) (simp append_assoc)

pub splice_all : (bs xs : Bits) → length xs ≡ length bs → splice bs 0 xs ≡ xs
unfolding splice
splice_all bs xs e = rw (zero-add (length xs), e, drop-length bs) (append-nil xs)

pub splice-mid : (a b c xs : Bits) (from : ℕ) → length a ≡ from → length xs ≡ length b → splice (a ++ (b ++ c)) from xs ≡ a ++ (xs ++ c)
unfolding splice
splice-mid a b c xs from ea eb =
    rw (← drop-drop (length xs) from (a ++ (b ++ c)), take_at a (b ++ c) from ea, drop_at a (b ++ c) from ea, drop_at b c (length xs) (sym eb))

module _ (bs : Bits) (from : ℕ) where
  -- there is room for xs: what is written is inside, unless it is nothing
  module _ (xs : Bits) (room : length xs ≤ length bs - from) where
    pub length-splice : length (splice bs from xs) ≡ length bs
    unfolding splice
    length-splice = simp (length-append, length-take, length-drop) (omega arith)

  -- the bits before stay
  pub take-splice : (xs : Bits) → length xs ≤ length bs - from → (n : ℕ) → n ≤ from → take n (splice bs from xs) ≡ take n bs
  unfolding splice
  take-splice [] h n k = ap (take n) (splice-nil bs from)
  take-splice (x ∷ xs) h n k =
      take-append-le n (take from bs) _ (rw (length-take-le from bs (omega arith)) k) ∙ take-take n from bs k

  -- from there on: what was written, and then the bits after it, which stay
  pub drop-splice : (xs : Bits) → length xs ≤ length bs - from → drop from (splice bs from xs) ≡ xs ++ drop (from + length xs) bs
  unfolding splice
  drop-splice [] h = rw (add-zero from) (ap (drop from) (take-append-drop from bs))
  drop-splice (x ∷ xs) h = drop_at (take from bs) _ from (length-take-le from bs (omega arith))

  pub drop-splice-after : (xs : Bits) → length xs ≤ length bs - from → drop (from + length xs) (splice bs from xs) ≡ drop (from + length xs) bs
  drop-splice-after xs h =
      sym (drop-drop (length xs) from (splice bs from xs)) ∙ ap (drop (length xs)) (drop-splice xs h) ∙ drop_at xs (drop (from + length xs) bs) (length xs) refl

  -- up to the end of what was written
  take-splice_through : (xs : Bits) → length xs ≤ length bs - from → take (from + length xs) (splice bs from xs) ≡ take from bs ++ xs
  unfolding splice
  take-splice_through [] h = rw (splice-nil bs from, add-zero from, append-nil (take from bs))
  take-splice_through (x ∷ xs) h =
      let ys : Bits = x ∷ xs in
      rw (← append_assoc (take from bs) ys (drop (from + length ys) bs))
      (take_at (take from bs ++ ys) (drop (from + length ys) bs) (from + length ys)
      (length-append (take from bs) ys ∙ ap (λ (n : ℕ). n + length ys) (length-take-le from bs (omega arith))))

  -- two, one after the other
  pub splice-splice : (xs ys : Bits) → length xs ≤ length bs - from → splice (splice bs from xs) (from + length xs) ys ≡ splice bs from (xs ++ ys)
  splice-splice xs ys h =
      unfold_splice (splice bs from xs) (from + length xs) ys
      ∙ ap₂ (λ (a b : Bits). a ++ (ys ++ b)) (take-splice_through xs h)
      (sym (drop-drop (length ys) (from + length xs) (splice bs from xs)) ∙ ap (drop (length ys)) (drop-splice-after xs h) ∙ drop-drop (length ys) (from + length xs) bs)
      ∙ append_assoc (take from bs) xs (ys ++ drop (from + length xs + length ys) bs)
      ∙ ap (λ (r : Bits). take from bs ++ r) (sym (append_assoc xs ys (drop (from + length xs + length ys) bs)))
      ∙ ap (λ (n : ℕ). take from bs ++ ((xs ++ ys) ++ drop n bs)) (add_assoc from (length xs) (length ys) ∙ ap (λ (n : ℕ). from + n) (sym (length-append xs ys)))
      ∙ sym (unfold_splice bs from (xs ++ ys))

-- ## octets

pub length-octets_of : (n : ℕ) (bs : Bits) → length (octets_of n bs) ≡ n
unfolding octets_of
length-octets_of zero bs = refl
length-octets_of (suc n) bs = ap suc (length-octets_of n (drop 8 bs))

pub octets-octets_of : (n : ℕ) (bs : Bits) → Octets (octets_of n bs)
unfolding octets_of
octets-octets_of zero bs i = lit< tt
octets-octets_of (suc n) bs zero = number-take_lt 8 bs
octets-octets_of (suc n) bs (suc i) = octets-octets_of n (drop 8 bs) i

pub bits_of-octets_of : (n : ℕ) (bs : Bits) → length bs ≡ 8 * n → bits_of (octets_of n bs) ≡ bs
unfolding octets_of bits_of
bits_of-octets_of zero [] e = refl
bits_of-octets_of zero (b ∷ bs) e = absurd (omega arith)
bits_of-octets_of (suc n) bs e =
    let l8 : length (take 8 bs) ≡ 8 = length-take-le 8 bs (omega arith) in
    let d : digits 8 (number (take 8 bs)) ≡ take 8 bs = subst (λ (k : ℕ). digits k (number (take 8 bs)) ≡ take 8 bs) l8 (digits_number (take 8 bs)) in
    rw (d, bits_of-octets_of n (drop 8 bs) (length-drop 8 bs ∙ omega arith)) (take-append-drop 8 bs)

pub octets_of-bits_of : (os : List ℕ) → Octets os → octets_of (length os) (bits_of os) ≡ os
unfolding octets_of bits_of
octets_of-bits_of [] h = refl
octets_of-bits_of (o ∷ os) h =
    rw (
      take_at (digits 8 o) (bits_of os) 8 (length_digits 8 o),
      drop_at (digits 8 o) (bits_of os) 8 (length_digits 8 o),
      number_digits 8 o (h 0),
      octets_of-bits_of os (λ i. h (suc i)),
    )

octets_of-append : (m n : ℕ) (xs ys : Bits) → length xs ≡ 8 * m → octets_of (m + n) (xs ++ ys) ≡ octets_of m xs ++ octets_of n ys
unfolding octets_of
octets_of-append zero n [] ys e = ap (λ (k : ℕ). octets_of k ys) (zero-add n)
octets_of-append zero n (x ∷ xs) ys e = absurd (omega arith)
octets_of-append (suc m) n xs ys e =
    rw (suc-add m n, take-append-le 8 xs ys (omega arith), drop-append-le 8 xs ys (omega arith), octets_of-append m n (drop 8 xs) ys (length-drop 8 xs ∙ omega arith))

-- ## bits put into octets

pub length-put_bits : (os : List ℕ) (from : ℕ) (xs : Bits) → length (put_bits os from xs) ≡ length os
unfolding put_bits
length-put_bits os from xs = length-octets_of (length os) (splice (bits_of os) from xs)

pub octets-put_bits : (os : List ℕ) (from : ℕ) (xs : Bits) → Octets (put_bits os from xs)
unfolding put_bits
octets-put_bits os from xs = octets-octets_of (length os) (splice (bits_of os) from xs)

pub bits_of-put_bits : (os : List ℕ) (from : ℕ) (xs : Bits) → length xs ≤ 8 * length os - from → bits_of (put_bits os from xs) ≡ splice (bits_of os) from xs
unfolding put_bits
bits_of-put_bits os from xs h =
    bits_of-octets_of (length os) (splice (bits_of os) from xs)
    (length-splice (bits_of os) from xs (rw (length-bits_of os) h) ∙ length-bits_of os)

pub put_bits-nil : (os : List ℕ) (from : ℕ) → Octets os → put_bits os from [] ≡ os
unfolding put_bits
put_bits-nil os from h = rw (splice-nil (bits_of os) from) (octets_of-bits_of os h)

unfold_put_bits : (os : List ℕ) (from : ℕ) (xs : Bits) → put_bits os from xs ≡ octets_of (length os) (splice (bits_of os) from xs)
unfolding put_bits
unfold_put_bits os from xs = refl

-- one after the other
pub put_bits-put_bits : (os : List ℕ) (from : ℕ) (xs ys : Bits) → length xs ≤ 8 * length os - from
    → put_bits (put_bits os from xs) (from + length xs) ys ≡ put_bits os from (xs ++ ys)
put_bits-put_bits os from xs ys h =
    unfold_put_bits (put_bits os from xs) (from + length xs) ys
    ∙ ap₂ (λ (n : ℕ) (bs : Bits). octets_of n (splice bs (from + length xs) ys)) (length-put_bits os from xs) (bits_of-put_bits os from xs h)
    ∙ ap (octets_of (length os)) (splice-splice (bits_of os) from xs ys (rw (length-bits_of os) h))
    ∙ sym (unfold_put_bits os from (xs ++ ys))

-- octets before and behind the part that is changed
pub put_bits-part : (a p b : List ℕ) (from : ℕ) (xs : Bits) → Octets a → Octets b → from + length xs ≤ 8 * length p
    → put_bits (a ++ (p ++ b)) (8 * length a + from) xs ≡ a ++ (put_bits p from xs ++ b)
put_bits-part a p b from xs oa ob h =
    let la : length (bits_of a) ≡ 8 * length a = length-bits_of a in
    let lp : length (bits_of p) ≡ 8 * length p = length-bits_of p in
    let ls : length (splice (bits_of p) from xs) ≡ 8 * length p = length-splice (bits_of p) from xs (omega arith) ∙ lp in
    unfold_put_bits (a ++ (p ++ b)) (8 * length a + from) xs
    ∙ rw (
      bits_of-append a (p ++ b),
      bits_of-append p b,
      ← la,
      splice-add (bits_of a) (bits_of p ++ bits_of b) from xs,
      splice_le (bits_of p) (bits_of b) from xs (omega arith),
      length-append a (p ++ b),
      length-append p b,
    )
    (rw (
      octets_of-append (length a) (length p + length b) (bits_of a) (splice (bits_of p) from xs ++ bits_of b) la,
      octets_of-append (length p) (length b) (splice (bits_of p) from xs) (bits_of b) ls,
      octets_of-bits_of a oa,
      octets_of-bits_of b ob,
    )
    (ap (λ (m : List ℕ). a ++ (m ++ b)) (sym (unfold_put_bits p from xs))))

-- the bits of one octet in their place
pub put_bits-one : (o from : ℕ) (xs : Bits) → from + length xs ≤ 8 → put_bits (o ∷ []) from xs ≡ number (splice (digits 8 o) from xs) ∷ []
unfolding put_bits octets_of bits_of
put_bits-one o from xs h =
    let l : length (splice (digits 8 o) from xs) ≡ 8 = length-splice (digits 8 o) from xs (rw (length_digits 8 o) (omega arith)) ∙ length_digits 8 o in
    rw (append-nil (digits 8 o), take_all 8 (splice (digits 8 o) from xs) (omega arith))

pub put_bits_octet : (os : List ℕ) (q from : ℕ) (xs : Bits) → q < length os → from + length xs ≤ 8 → Octets os
    → set os q (number (splice (digits 8 (get_or os q 0)) from xs)) ≡ put_bits os (8 * q + from) xs
put_bits_octet os q from xs h k o =
    let x : ℕ = get_or os q 0 in
    let a : List ℕ = take q os in
    let b : List ℕ = drop (suc q) os in
    let la : length a ≡ q = length-take-le q os (omega arith) in
    let e : os ≡ a ++ ((x ∷ []) ++ b) = split_at os q 0 h in
    set_split os q (number (splice (digits 8 x) from xs)) h
    ∙ ap (λ (m : List ℕ). a ++ (m ++ b)) (sym (put_bits-one x from xs k))
    ∙ sym (put_bits-part a (x ∷ []) b from xs (octets-take q os o) (octets-drop (suc q) os o) k)
    ∙ ap₂ (λ (l : List ℕ) (n : ℕ). put_bits l (8 * n + from) xs) (sym e) la

-- ## writing at a cursor

module _ (xs : Bits) (os : List ℕ) (c : Cursor) where
  pub write-there : length xs ≤ left (length os) c → write xs os c ≡ record { octets = put_bits os c.at xs; answer = placed tt (onward (length xs) c) }
  unfolding write
  write-there h = rw (le-leb _ _ h)

  pub write-short : left (length os) c < length xs → write xs os c ≡ unwritten window_too_short os
  unfolding write
  write-short h = rw (lt-leb _ _ h)

module _ (w v : ℕ) (os : List ℕ) (c : Cursor) where
  pub field_fits : w ≤ 64 → v < 2 ^ w → write_field w v os c ≡ write (digits w v) os c
  unfolding write_field
  field_fits h k = rw (le-leb w 64 h, lt-ltb v (2 ^ w) k)

  pub field-written : w ≤ 64 → v < 2 ^ w → w ≤ left (length os) c
      → write_field w v os c ≡ record { octets = put_bits os c.at (digits w v); answer = placed tt (onward w c) }
  field-written h k r =
      let l : length (digits w v) ≡ w = length_digits w v in
      field_fits h k ∙ write-there (digits w v) os c (rw l r)
      ∙ ap (λ (n : ℕ). record { octets = put_bits os c.at (digits w v); answer = placed tt (onward n c) }) l

  pub field_no_room : w ≤ 64 → v < 2 ^ w → left (length os) c < w → write_field w v os c ≡ unwritten window_too_short os
  field_no_room h k r = field_fits h k ∙ write-short (digits w v) os c (rw (length_digits w v) r)

  pub field_wide : 64 < w → write_field w v os c ≡ unwritten value_too_large os
  unfolding write_field
  field_wide h = rw (lt-leb w 64 h)

  pub field_large : 2 ^ w ≤ v → write_field w v os c ≡ unwritten value_too_large os
  unfolding write_field
  field_large h = rw (le-ltb v (2 ^ w) h) (go (leb w 64))
    where
      go : (b : Bool) → cond b (unwritten value_too_large os) (unwritten value_too_large os) ≡ unwritten value_too_large os
      go true = refl
      go false = refl

-- WHAT WAS WRITTEN: xs stand at c in os', every other bit is that of os, and k is the place behind them
pub record Writes (xs : Bits) (os : List ℕ) (c : Cursor) (os' : List ℕ) (k : Cursor) : Type 0 where
  pub room : length xs ≤ left (length os) c
  pub octets : os' ≡ put_bits os c.at xs
  pub next : k ≡ onward (length xs) c

-- a writer that did not refuse wrote
pub writes : (xs : Bits) (os : List ℕ) (c : Cursor) {os' : List ℕ} {k : Cursor} → placed tt k ≡ (write xs os c).answer → os' ≡ (write xs os c).octets
    → Writes xs os c os' k
unfolding write
writes xs os c {os'} {k} e p = go (leb (length xs) (left (length os) c)) refl e p
  where
    go : (b : Bool) → leb (length xs) (left (length os) c) ≡ b
        → placed tt k ≡ (cond b (record { octets = put_bits os c.at xs; answer = placed tt (onward (length xs) c) }) (unwritten window_too_short os)).answer
        → os' ≡ (cond b (record { octets = put_bits os c.at xs; answer = placed tt (onward (length xs) c) }) (unwritten window_too_short os)).octets
        → Writes xs os c os' k
    go true h e p = record { room = leb-true _ _ h; octets = p; next = cc }
    go false h e p = halted-placed (sym e)

module _ {xs : Bits} {os os' : List ℕ} {c k : Cursor} (p : Writes xs os c os' k) where
  bits-written : bits_of os' ≡ splice (bits_of os) c.at xs
  bits-written = let r = p.room in ap bits_of p.octets ∙ bits_of-put_bits os c.at xs (omega arith)

  inside : length xs ≤ length (bits_of os) - c.at
  inside = let r = p.room in rw (length-bits_of os) (omega arith)

  behind : k.at ≡ c.at + length xs
  behind = ap (λ (x : Cursor). x.at) p.next

  -- EVERY OTHER BIT IS KEPT: those before, and those behind
  pub kept-before : take c.at (bits_of os') ≡ take c.at (bits_of os)
  kept-before = ap (take c.at) bits-written ∙ take-splice (bits_of os) c.at xs inside c.at (omega arith)

  pub kept-behind : drop k.at (bits_of os') ≡ drop k.at (bits_of os)
  kept-behind = rw (behind, bits-written) (drop-splice-after (bits_of os) c.at xs inside)

  pub length-kept : length os' ≡ length os
  length-kept = ap length p.octets ∙ length-put_bits os c.at xs

  -- WHAT A READER FINDS: the bits written, and then what was left there
  pub window-written : window os' c ≡ xs ++ window os k
  unfolding window
  window-written =
      let r = p.room in
      let e : c.end - c.at ≡ length xs + (c.end - (c.at + length xs)) = omega arith in
      ap (λ (bs : Bits). take (c.end - c.at) (drop c.at bs)) bits-written
      ∙ ap (take (c.end - c.at)) (drop-splice (bits_of os) c.at xs inside)
      ∙ ap (λ (n : ℕ). take n (xs ++ drop (c.at + length xs) (bits_of os))) e
      ∙ take-append-add xs (drop (c.at + length xs) (bits_of os)) (c.end - (c.at + length xs))
      ∙ ap (λ (j : Cursor). xs ++ take (j.end - j.at) (drop j.at (bits_of os))) (sym p.next)
