-- `bits::bitbuffer::Cursor::read` meets its contract.
use native.Mathlib.Omega.{arith}
use Prim.Native.Nat.{◌≤◌}
use Rattle.bits.specs.PlacedLaws.{so, word_wide}
use Rattle.bits.proofs.Held.{read-there, read-ended, low-bits}
use Rattle.bits.proofs.bitbuffer.Cursor.read.Goals as goal

pub returns-then-BITS-width : goal.returns-then-BITS-width
returns-then-BITS-width g c = so (word_wide _ _ _ _ (omega (arith, c.BITS.ensures)))

pub returns-then-not-holds : goal.returns-then-not-holds
returns-then-not-holds g c = read-ended _ _ _ c.holds.ensures _ c.if-not-holds.true

pub returns : goal.returns
returns g c =
    let narrow : c.args.width ≤ g.T.Number.BITS = omega (arith, c.BITS.ensures) in
    read-there _ _ _ c.holds.ensures _ c.if-not-holds.false narrow (low-bits _ _ _ _ c.of.ensures c.value-v.ensures narrow) c.past.ensures
