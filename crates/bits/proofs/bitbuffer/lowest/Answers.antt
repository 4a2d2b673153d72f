-- `bits::bitbuffer::lowest` meets its contract. Assumes nothing.
use native.Mathlib.Nat.{mod-eq_of_lt, lt_of_lt_of_le}
use mathlib.Core.Path.{sym}
use lib.Pow.{pow_mono}
use native.Mathlib.Omega.{arith}
use Rattle.bits.proofs.bitbuffer.lowest.Goals as goal

pub returns : goal.returns
returns c = sym (mod-eq_of_lt (lt_of_lt_of_le c.ranges.word.fits (pow_mono {i = 64} {j = c.args.n} (omega arith))))
