-- A field in a part of the octets, k from octet f on: read there, and put there. Assumes nothing.
use Prim.Native.Nat.{ℕ, ◌+◌, ◌-◌, ◌*◌, ◌≤◌}
use native.Mathlib.Omega.{arith}
use mathlib.Core.Path.{◌≡◌, sym, ap, ap₂, ◌∙◌}
use mathlib.Core.List.{List, ◌++◌}
use lib.ListN.{length, take, drop, length-drop, take-append-drop}
use lib.Seq.{length-take-le, drop-drop, take-append-le, drop-append-le}
use Rattle.bits.specs.Bits.{Bits, number, bits_of}
use Rattle.bits.specs.BitsLaws.{length-bits_of, bits_of-append, drop-bits_of}
use Rattle.bits.specs.Placed.{field_at}
use Rattle.bits.specs.Written.{put_bits}
use Rattle.bits.specs.WrittenLaws.{Octets, octets-take, octets-drop, put_bits-part}

module _ (os : List ℕ) (f k s : ℕ) (inside : f + k ≤ length os) where
  length_part : length (take k (drop f os)) ≡ k
  length_part = length-take-le k (drop f os) (rw (length-drop f os) (omega arith))

  pub field-part : (w : ℕ) → s + w ≤ 8 * k → field_at (take k (drop f os)) s w ≡ field_at os (8 * f + s) w
  field-part w h =
      let p : Bits = bits_of (take k (drop f os)) in
      let r : Bits = bits_of (drop k (drop f os)) in
      let lp : length p ≡ 8 * k = length-bits_of (take k (drop f os)) ∙ ap (λ (n : ℕ). 8 * n) length_part in
      let ld : length (drop s p) ≡ length p - s = length-drop s p in
      let e : p ++ r ≡ drop (8 * f) (bits_of os) =
      sym (bits_of-append (take k (drop f os)) (drop k (drop f os))) ∙ ap bits_of (take-append-drop k (drop f os)) ∙ sym (drop-bits_of f os) in
      ap number (sym (take-append-le w (drop s p) r (omega arith))
      ∙ ap (take w) (sym (drop-append-le s p r (omega arith)) ∙ ap (drop s) e ∙ drop-drop s (8 * f) (bits_of os)))

  pub put-part : (xs : Bits) → Octets os → s + length xs ≤ 8 * k
      → take f os ++ (put_bits (take k (drop f os)) s xs ++ drop k (drop f os)) ≡ put_bits os (8 * f + s) xs
  put-part xs o h =
      let lf : length (take f os) ≡ f = length-take-le f os (omega arith) in
      sym (put_bits-part (take f os) (take k (drop f os)) (drop k (drop f os)) s xs
      (octets-take f os o) (octets-drop k (drop f os) (octets-drop f os o)) (rw length_part h))
      ∙ ap₂ (λ (l : List ℕ) (n : ℕ). put_bits l (8 * n + s) xs)
      (ap (λ (l : List ℕ). take f os ++ l) (take-append-drop k (drop f os)) ∙ take-append-drop f os) lf
