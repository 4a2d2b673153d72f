-- `bits::bitbuffer::Cursor::write` meets its contract.
use Prim.Native.Nat.{◌^◌}
use native.Mathlib.Omega.{arith}
use mathlib.Core.Path.{◌≡◌, sym, ap, ◌∙◌}
use borrow.Author.Tests.{ltb-false}
use Rattle.bits.specs.Placed.{placed}
use Rattle.bits.specs.Written.{Written}
use Rattle.bits.specs.WrittenLaws.{field-written, field_no_room, field_wide, field_large}
use Rattle.bits.proofs.Held.{small, held, not-held}
use Rattle.bits.proofs.bitbuffer.Cursor.write.Goals as goal

answers : {x y : Written} → y ≡ x → (x.answer ≡ y.answer) × (x.octets ≡ y.octets)
answers e = (sym (ap (λ (z : Written). z.answer) e), sym (ap (λ (z : Written). z.octets) e))

pub returns-then-width-gt64 : goal.returns-then-width-gt64
returns-then-width-gt64 c =
    let a = c.args in
    let w = answers (field_wide a.width a.value a.octets.now a.self (omega arith)) in
    record { answer = w.0; octets = w.1 }

pub put-requires : goal.put-requires
put-requires c =
    let a = c.args in
    let r = held _ _ _ c.holds.ensures c.if-holds.true in
    let h = small a.value a.width c.within.ensures c.if-within.true in
    omega arith

pub past-requires : goal.past-requires
past-requires c =
    let r = held _ _ _ c.holds.ensures c.if-holds.true in
    omega arith

pub returns-then-holds : goal.returns-then-holds
returns-then-holds c =
    let a = c.args in
    let r = held _ _ _ c.holds.ensures c.if-holds.true in
    let h = small a.value a.width c.within.ensures c.if-within.true in
    let w = answers (field-written a.width a.value a.octets.now a.self (omega arith) h (omega arith)) in
    record { answer = ap (placed tt) c.past.ensures ∙ w.0; octets = c.put.ensures ∙ w.1 }

pub returns-then-within : goal.returns-then-within
returns-then-within c =
    let a = c.args in
    let r = not-held _ _ _ c.holds.ensures c.if-holds.false in
    let h = small a.value a.width c.within.ensures c.if-within.true in
    let w = answers (field_no_room a.width a.value a.octets.now a.self (omega arith) h (omega arith)) in
    record { answer = w.0; octets = w.1 }

pub returns : goal.returns
returns c =
    let a = c.args in
    let h = ltb-false a.value (2 ^ a.width) (sym c.within.ensures ∙ c.if-within.false) in
    let w = answers (field_large a.width a.value a.octets.now a.self h) in
    record { answer = w.0; octets = w.1 }
