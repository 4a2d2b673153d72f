-- `element_writers::group_list::group_back` meets its contract. Assumes nothing.
use Rattle.bits.specs.DigitsLaws.{no_digits, ◌▹◌}
use Rattle.element_writers.proofs.group_list.group_back.Goals as goal

pub returns : goal.returns
returns c = no_digits ▹ c.then_if.ensures ▹ c.then_if-2.ensures
