-- `bits::bitbuffer::patch` meets its contract. Assumes nothing.
use Prim.Native.Nat.{ℕ, ◌-◌}
use native.Mathlib.Omega.{arith}
use Rattle.bits.proofs.Turn.{patch_shifts, patch_lt}
use Rattle.bits.proofs.bitbuffer.patch.Goals as goal

pub returns : goal.returns
returns c =
    let a = c.args in
    let t : ℕ = 8 - a.skip - a.n in
    rw c.low.ensures
    (patch_shifts a.octet a.skip a.n t a.chunk (omega arith) c.ranges.octet.fits c.requires.1)

pub overflow_cast-result : goal.overflow_cast-result
overflow_cast-result c =
    let a = c.args in
    record { fits = rw (returns c) (patch_lt a.octet a.skip a.n a.chunk (omega arith)) }
