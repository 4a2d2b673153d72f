-- `bits::bitbuffer::gather` meets its contract. The loop's invariant: the value is the field up to octet i. Assumes nothing.
use Prim.Native.Nat.{ℕ, ◌+◌, ◌-◌, ◌*◌, ◌/◌, ◌%◌, ◌^◌}
use native.Mathlib.Nat.{div-one}
use native.Mathlib.Omega.{arith}
use mathlib.Core.Path.{◌≡◌, refl, sym, ap, ◌∙◌}
use lib.ListN.{get_or}
use Rattle.bits.specs.Placed.{field_at}
use Rattle.bits.proofs.Turn.{field-first, field-more}
use Rattle.bits.proofs.bitbuffer.gather.Goals as goal

pub returns-then-stop-le8 : goal.returns-then-stop-le8
returns-then-stop-le8 c =
    let a = c.args in
    rw c.low-value.ensures (field-first a.part.now a.skip a.width (omega arith) (omega arith))

pub loop-i-init : goal.loop-i-init
loop-i-init c =
    let a = c.args in
    let n : ℕ = 8 - a.skip in
    let v : ℕ = get_or a.part.now 0 0 % 2 ^ n in
    let e : 0 ≡ 8 - (a.skip + n) = omega arith in (
      omega arith,
      omega arith,
      rw c.low-value.ensures
          (sym (div-one v) ∙ ap (λ (t : ℕ). v / 2 ^ t) e ∙ field-first a.part.now a.skip n (omega arith) (omega arith)),
    )

pub loop-i-preserved : goal.loop-i-preserved
loop-i-preserved c =
    let a = c.args in
    let l = c.loop-i in
    let d : ℕ = 8 * l.i - a.skip in
    let e : d + 8 ≡ 8 * (l.i + 1) - a.skip = omega arith in (
      omega arith,
      omega arith,
      rw (← div-one (get_or a.part.now l.i 0))
          (field-more a.part.now a.skip l.i d 8 0 l.value
          (omega arith) refl (omega arith) (omega arith) (c.shared_slice_known-in-loop-i-1.given l.i).fits l.invariant.2
          ∙ ap (field_at a.part.now a.skip) e),
    )

pub returns-then-last-eq0 : goal.returns-then-last-eq0
returns-then-last-eq0 c =
    let a = c.args in
    let l = c.loop-i in
    let e : 8 * l.i - a.skip ≡ a.width = omega arith in
    l.invariant.2 ∙ ap (field_at a.part.now a.skip) e

pub returns : goal.returns
returns c =
    let a = c.args in
    let l = c.loop-i in
    let whole : ℕ = (a.skip + a.width) / 8 in
    let d : ℕ = 8 * whole - a.skip in
    let n : ℕ = (a.skip + a.width) % 8 in
    let e : d + n ≡ a.width = omega arith in
    let at_end : l.i ≡ whole = omega arith in
    field-more a.part.now a.skip whole d n (8 - n) l.value
    (omega arith) (omega arith) (omega arith) (omega arith) (c.shared_slice_known-3-1.given whole).fits (rw at_end at l.invariant.2)
    ∙ ap (field_at a.part.now a.skip) e
