-- `bits::bitbuffer::gather` meets its contract. The loop's invariant: the value is the field up to octet i. Assumes nothing.
use Prim.Native.Nat.{◌-◌, ◌*◌, ◌≤◌}
use mathlib.Core.Path.{◌≡◌}
use Rattle.bits.specs.Placed.{field_at}
use Rattle.bits.proofs.bitbuffer.gather.Given as goal

abbrev pub invariant-loop-i : goal.invariant-loop-i
invariant-loop-i l = (1 ≤ l.i) × (l.i ≤ l.whole) × (l.value ≡ field_at l.part l.skip (8 * l.i - l.skip))
