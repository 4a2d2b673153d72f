-- `bits::bitbuffer::scatter` meets its contract. The loop's invariant: from bit 8 on stand the digits written so far. Assumes nothing.
use Prim.Native.Nat.{◌+◌, ◌-◌, ◌*◌, ◌/◌, ◌^◌, ◌≤◌}
use mathlib.Core.Path.{◌≡◌}
use lib.ListN.{length}
use Rattle.bits.specs.Bits.{digits}
use Rattle.bits.specs.Written.{put_bits}
use Rattle.bits.proofs.bitbuffer.scatter.Given as goal

abbrev pub invariant-loop-i : goal.invariant-loop-i
invariant-loop-i l =
    (1 ≤ l.i) × (8 * l.i + l.left ≡ l.stop) × (l.stop ≤ 8 * length l.part) × (l.part ≡ put_bits l.initial.part 8 (digits (l.initial.left - l.left) (l.value / 2 ^ l.left)))
