-- `bits::bitbuffer::Cursor::put` meets its contract.
use Rattle.std.specs.Prelude.{◌<◌, ◌≤◌, ◌^◌, ◌%◌, length}
use Rattle.std.proofs.Common.{arith, le-leb}
use Rattle.std.proofs.lemmas.Bool.{lt-leb}
use native.Mathlib.Nat.{mod-lt}
use lib.Pow.{pow_pos}
use Rattle.bits.specs.BitsLaws.{length_digits, digits_mod}
use Rattle.bits.specs.Placed.{left}
use Rattle.bits.specs.Written.{put}
use Rattle.bits.proofs.Held.{held, not-held}
use Rattle.bits.proofs.bitbuffer.Cursor.put.Goals as goal
use Rattle.bits.proofs.bitbuffer.Cursor.put.Goals.{else-d-le64-via-then-d-le64+else-holds, else-d-le64-via-else-d-le64}

pub put-requires : goal.put-requires
put-requires c =
    let a = c.args in
    let r = held _ _ _ c.holds.ensures c.if-holds.true in
    let v : a.d.value % 2 ^ a.d.width < 2 ^ a.d.width = mod-lt _ (pow_pos a.d.width) in
    (c.if-d-le64.true, omega arith, omega arith, rw c.lowest.ensures v)

pub past-requires : goal.past-requires
past-requires c =
    let a = c.args in
    let r = held _ _ _ c.holds.ensures c.if-holds.true in
    omega arith

pub returns-then-holds : goal.returns-then-holds
unfolding put
returns-then-holds c =
    let a = c.args in
    let d = a.d in
    let h = held _ _ _ c.holds.ensures c.if-holds.true in
    let r : d.width ≤ left (length a.octets.now) a.self = omega arith in
    rw (c.past.ensures, c.put.ensures, c.lowest.ensures, digits_mod d.width d.value, le-leb d.width 64 (c.if-d-le64.true), length_digits d.width d.value, le-leb d.width _ r)

pub returns : goal.returns
unfolding put
returns c =
    let a = c.args in
    let d = a.d in
    elim c.else-d-le64.branch [
      | else-d-le64-via-then-d-le64+else-holds w ↦
          let h = not-held _ _ _ w.holds.ensures w.if-holds.false in
          let r : left (length a.octets.now) a.self < d.width = omega arith in
          rw (le-leb d.width 64 (w.if-d-le64.true), length_digits d.width d.value, lt-leb _ _ r)
      | else-d-le64-via-else-d-le64 w ↦ rw (lt-leb d.width 64 (omega arith))
    ]
