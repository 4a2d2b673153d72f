-- `messages::is_good_window` meets its contract. Assumes nothing.
use Rattle.std.proofs.Common.{arith}
use Rattle.std.proofs.lemmas.Bool.Decides.{nat_tests}
use Rattle.messages.specs.Calls.{good_window}
use Rattle.messages.proofs.is_good_window.Goals as goal

pub returns-then-c : goal.returns-then-c
unfolding good_window
returns-then-c c = grind (arith, nat_tests)

pub returns-else-c : goal.returns-else-c
unfolding good_window
returns-else-c c = grind (arith, nat_tests)
