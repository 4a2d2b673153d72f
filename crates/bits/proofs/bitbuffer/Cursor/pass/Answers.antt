-- `bits::bitbuffer::Cursor::pass` meets its contract. Assumes nothing.
use native.Mathlib.Omega.{arith}
use mathlib.Core.Path.{ap, ◌∙◌}
use Rattle.bits.specs.Placed.{placed}
use Rattle.bits.specs.PlacedLaws.{so, pass-there, pass-ended}
use Rattle.bits.proofs.Held.{held, not-held}
use Rattle.bits.proofs.bitbuffer.Cursor.pass.Goals as goal

pub past-requires : goal.past-requires
past-requires c =
    let a = c.args in
    let h = held a.octets.now a.self a.width c.holds.ensures c.if-holds.true in
    omega arith

pub returns-then-holds : goal.returns-then-holds
returns-then-holds c =
    let a = c.args in
    let h = held a.octets.now a.self a.width c.holds.ensures c.if-holds.true in
    ap (placed tt) c.past.ensures ∙ so (pass-there a.octets.now a.self a.width h)

pub returns : goal.returns
returns c =
    let a = c.args in
    let h = not-held a.octets.now a.self a.width c.holds.ensures c.if-holds.false in
    so (pass-ended a.octets.now a.self a.width h)
