-- `bits::bitbuffer::within` meets its contract. Assumes nothing.
use Prim.Native.Nat.{◌^◌}
use native.Mathlib.Nat.{lt_of_lt_of_le}
use native.Mathlib.Omega.{arith}
use mathlib.Core.Path.{sym, ◌∙◌}
use lib.Pow.{pow_mono}
use borrow.Author.Tests.{lt-ltb}
use Rattle.bits.proofs.Shifts.{shr_none, shr_some}
use Rattle.bits.proofs.bitbuffer.within.Goals as goal

pub returns-then-width-gt63 : goal.returns-then-width-gt63
returns-then-width-gt63 c =
    let a = c.args in
    lt-ltb _ _ c.if-width-gt63.true ∙ sym (lt-ltb a.value (2 ^ a.width) (lt_of_lt_of_le c.ranges.value.fits (pow_mono {i = 64} {j = a.width} (omega (arith, c.if-width-gt63.true)))))

pub returns-else-width-gt63 : goal.returns-else-width-gt63
returns-else-width-gt63 c = grind (arith, shr_none, shr_some)
