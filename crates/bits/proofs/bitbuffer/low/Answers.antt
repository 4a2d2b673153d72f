-- `bits::bitbuffer::low` meets its contract. Assumes nothing.
use native.Mathlib.Omega.{arith}
use lib.Pow.{pow_pos}
use Rattle.bits.proofs.Shifts.{shl_one}
use Rattle.bits.proofs.bitbuffer.low.Goals as goal

pub nonzero_rem-result : goal.nonzero_rem-result
nonzero_rem-result c = rw (shl_one c.args.n (omega arith)) (pow_pos c.args.n)

pub returns : goal.returns
returns c = rw (shl_one c.args.n (omega arith))
