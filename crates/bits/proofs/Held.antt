-- What the answers of `within` and `holds` say, and what a read answers then. Assumes nothing.
use Prim.Native.Nat.{ℕ, ◌^◌, ◌%◌, ◌≤◌, ◌<◌}
use native.Mathlib.Nat.{lt_of_lt_of_le, mod-eq_of_lt}
use mathlib.Core.Path.{◌≡◌, sym, ap₂, ◌∙◌}
use mathlib.Core.Bool.{Bool, true, false}
use mathlib.Core.List.{List}
use lib.ListN.{length, drop}
use lib.Dec.{leb, ltb}
use lib.Pow.{pow_mono}
use borrow.Author.Tests.{ltb-true, leb-true, leb-false}
use Rattle.bits.specs.PduParseError.{buffer_ended}
use Rattle.bits.specs.Bits.{bits_of}
use Rattle.bits.specs.BitsLaws.{number-take_lt}
use Rattle.bits.specs.Reader.{word}
use Rattle.bits.specs.Placed.{left, field_at, onward, placed, halted, at}
use Rattle.bits.specs.PlacedLaws.{so, word-there, word-ended}
use Rattle.bits.specs.declared.bitbuffer.Cursor.{Cursor}

pub small : (v w : ℕ) {b : Bool} → b ≡ ltb v (2 ^ w) → b ≡ true → v < 2 ^ w
small v w e t = ltb-true v (2 ^ w) (sym e ∙ t)

module _ (os : List ℕ) (c : Cursor) (w : ℕ) {b : Bool} (e : b ≡ leb w (left (length os) c)) where
  pub held : b ≡ true → w ≤ left (length os) c
  held t = leb-true w (left (length os) c) (sym e ∙ t)

  pub not-held : b ≡ false → left (length os) c < w
  not-held t = leb-false w (left (length os) c) (sym e ∙ t)

  -- A READ of at most n bits: its value, and its refusal
  pub read-there : (n : ℕ) {v : ℕ} {k : Cursor} → b ≡ true → w ≤ n
      → v ≡ field_at os c.at w → k ≡ onward w c → placed v k ≡ at (word n w) os c
  read-there n t h ev ek = ap₂ (λ (x : ℕ) (j : Cursor). placed x j) ev ek ∙ so (word-there os c w n h (held t))

  pub read-ended : (n : ℕ) → b ≡ false → halted buffer_ended ≡ at (word n w) os c
  read-ended n t = so (word-ended os c w n (not-held t))

-- the value of a field of w bits has no more than n
pub low-bits : (os : List ℕ) (from w n : ℕ) {u v : ℕ} → u ≡ v % 2 ^ n → v ≡ field_at os from w → w ≤ n → u ≡ field_at os from w
low-bits os from w n e q h =
    let b = lt_of_lt_of_le (number-take_lt w (drop from (bits_of os))) (pow_mono h) in
    rw (e, q) (mod-eq_of_lt b)
