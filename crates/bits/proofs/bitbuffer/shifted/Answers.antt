-- `bits::bitbuffer::shifted` meets its contract. Assumes nothing.
use Prim.Native.Nat.{◌^◌}
use native.Mathlib.Nat.{mul-mod_left}
use mathlib.Core.Path.{◌≡◌, sym}
use native.Mathlib.Omega.{arith}
use Rattle.bits.proofs.bitbuffer.shifted.Goals as goal

pub returns : goal.returns
returns c =
    let n : c.args.n ≡ 64 = omega arith in
    rw n (sym (mul-mod_left c.args.word (2 ^ 64)))
