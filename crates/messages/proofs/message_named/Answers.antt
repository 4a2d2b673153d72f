-- `messages::message_named` meets its contract. Assumes nothing.
use Rattle.std.specs.Prelude.{◌≡◌, refl, false, eqb}
use Rattle.std.proofs.Common.{arith}
use Rattle.std.proofs.lemmas.Bool.Decides.{nat_tests}
use Rattle.messages.specs.Calls.{message_among, message_of}
use Rattle.messages.proofs.message_named.Goals as goal

pub returns-in-2 : goal.returns-in-2
unfolding message_of message_among
returns-in-2 c = rw c.in-2.is refl

pub returns-in-5 : goal.returns-in-5
unfolding message_of message_among
returns-in-5 c = rw c.in-5.is refl

pub returns-in-10 : goal.returns-in-10
unfolding message_of message_among
returns-in-10 c = rw c.in-10.is refl

pub returns-in_default : goal.returns-in_default
unfolding message_of message_among
returns-in_default c =
    let n = c.args.number in
    let two : eqb n 2 ≡ false = grind (arith, nat_tests) in
    let five : eqb n 5 ≡ false = grind (arith, nat_tests) in
    let ten : eqb n 10 ≡ false = grind (arith, nat_tests) in
    rw (two, five, ten) refl
