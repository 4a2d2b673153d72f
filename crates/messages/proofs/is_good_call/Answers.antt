-- `messages::is_good_call` meets its contract. Assumes nothing.
use Rattle.std.proofs.Common.{arith}
use Rattle.std.proofs.lemmas.Bool.Decides.{nat_tests}
use Rattle.messages.specs.Calls.{good_call}
use Rattle.messages.proofs.is_good_call.Goals as goal

pub returns-then-wanted-le-SKIPPING : goal.returns-then-wanted-le-SKIPPING
unfolding good_call
returns-then-wanted-le-SKIPPING c = grind (arith, nat_tests)

pub returns-else-wanted-le-SKIPPING : goal.returns-else-wanted-le-SKIPPING
unfolding good_call
returns-else-wanted-le-SKIPPING c = grind (arith, nat_tests)
