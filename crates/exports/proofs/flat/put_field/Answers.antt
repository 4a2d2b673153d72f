-- `exports::flat::put_field` meets its contract: the presence octet, and behind it the octets of the number.
use native.Mathlib.Omega.{arith}
use mathlib.Core.Path.{◌≡◌, refl}
use Prim.Native.Nat.{suc, ◌+◌, ◌-◌, ◌≤◌}
use mathlib.Core.Bool.{cond}
use lib.ListN.{length, length-set, set}
use Rattle.std.specs.Int.{w64, to_be_bytes}
use Rattle.bits.specs.Bits.{bit}
use Rattle.exports.specs.FlatLaws.{put, copied}
use Rattle.exports.proofs.flat.put_field.Goals as goal
use Rattle.exports.proofs.flat.put_field.Goals.{then-present, else-present}

pub returns : goal.returns
returns c =
    let a = c.args in
    let f = set a.flat.now a.at (bit a.present) in
    let next : a.at + 1 ≡ suc a.at = omega arith in
    let size : a.at + 9 - (a.at + 1) ≡ 8 = omega arith in
    let shown : c.if-present.shown ≡ cond a.present a.value 0 = elim c.if-present.branch [ then-present w ↦ rw w.if-present.true w.shown-is | else-present w ↦ rw w.if-present.false w.shown-is ] in
    let room : a.at + 1 + 8 ≤ length f = rw (length-set a.flat.now a.at (bit a.present)) (omega arith) in
    put (rw (size, c.put_octets.ensures, c.to_be_bytes.ensures, shown, ← next) (copied f (a.at + 1) 8 (to_be_bytes w64 (cond a.present a.value 0)) refl room)) refl
