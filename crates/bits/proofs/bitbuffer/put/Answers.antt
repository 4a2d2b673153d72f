-- `bits::bitbuffer::put` meets its contract. Assumes nothing.
use Prim.Native.Nat.{ℕ, ◌+◌, ◌-◌, ◌*◌, ◌/◌, ◌%◌}
use native.Mathlib.Omega.{arith}
use mathlib.Core.Path.{◌≡◌, sym, ap, ◌∙◌}
use lib.ListN.{length}
use Rattle.bits.specs.Bits.{digits}
use Rattle.bits.specs.BitsLaws.{length_digits}
use Rattle.bits.specs.Written.{put_bits}
use Rattle.bits.specs.WrittenLaws.{put_bits-nil}
use Rattle.bits.proofs.Part.{put-part}
use Rattle.bits.proofs.bitbuffer.put.Goals as goal

pub returns-then-width-eq0 : goal.returns-then-width-eq0
unfolding digits
returns-then-width-eq0 c = rw c.if-width-eq0.true (sym (put_bits-nil c.args.octets.now c.args.at (λ i. (c.slice_known-1.given i).fits)))

pub returns : goal.returns
returns c =
    let a = c.args in
    let f : ℕ = a.at / 8 in
    let k : ℕ = (a.at + (a.width - 1)) / 8 + 1 - f in
    let l : length (digits a.width a.value) ≡ a.width = length_digits a.width a.value in
    let e : 8 * f + a.at % 8 ≡ a.at = omega arith in
    rw c.scatter.ensures
    (put-part a.octets.now f k (a.at % 8) (omega arith) (digits a.width a.value)
    (λ i. (c.slice_known-1.given i).fits) (omega arith)
    ∙ ap (λ (n : ℕ). put_bits a.octets.now n (digits a.width a.value)) e)
