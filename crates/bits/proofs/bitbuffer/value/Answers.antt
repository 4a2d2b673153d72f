-- `bits::bitbuffer::value` meets its contract. Assumes nothing.
use Prim.Native.Nat.{ℕ, ◌+◌, ◌-◌, ◌*◌, ◌/◌, ◌%◌}
use native.Mathlib.Omega.{arith}
use mathlib.Core.Path.{◌≡◌, ap, ◌∙◌}
use Rattle.bits.specs.Bits.{number}
use Rattle.bits.specs.Placed.{field_at}
use Rattle.bits.proofs.Part.{field-part}
use Rattle.bits.proofs.bitbuffer.value.Goals as goal

pub returns-then-width-eq0 : goal.returns-then-width-eq0
unfolding number
returns-then-width-eq0 c = rw c.if-width-eq0.true

pub returns : goal.returns
returns c =
    let a = c.args in
    let f : ℕ = a.at / 8 in
    let k : ℕ = (a.at + (a.width - 1)) / 8 + 1 - f in
    let e : 8 * f + a.at % 8 ≡ a.at = omega arith in
    c.gather.ensures
    ∙ field-part a.octets.now f k (a.at % 8) (omega arith) a.width (omega arith)
    ∙ ap (λ (n : ℕ). field_at a.octets.now n a.width) e
