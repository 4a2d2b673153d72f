-- `bits::bitbuffer::Digits::then` meets its contract. Assumes nothing.
use Prim.Native.Nat.{◌%◌, ◌^◌}
use native.Mathlib.Nat.{mod-lt}
use native.Mathlib.Omega.{arith}
use mathlib.Core.Path.{sym}
use lib.Pow.{pow_pos}
use Rattle.bits.specs.DigitsLaws.{digits_two, digits_two_many}
use Rattle.bits.proofs.Shifts.{shift_or}
use Rattle.bits.proofs.bitbuffer.Digits.then.Goals as goal

pub returns-then-self-width : goal.returns-then-self-width
returns-then-self-width c =
    let a = c.args in
    let d = a.self in
    record {
      is =
          rw (c.shifted.ensures, c.lowest-front.ensures, c.lowest.ensures)
          (rw (shift_or (d.value % 2 ^ d.width) d.width a.width (a.value % 2 ^ a.width) (mod-lt _ (pow_pos d.width)) (omega arith) (mod-lt _ (pow_pos a.width)))
          (sym (digits_two d a.width a.value (omega arith))));
    }

pub returns : goal.returns
returns c = let a = c.args in record { is = sym (digits_two_many a.self a.width a.value (grind arith)) }
