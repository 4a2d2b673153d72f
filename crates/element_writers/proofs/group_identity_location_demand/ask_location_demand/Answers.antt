-- `element_writers::group_identity_location_demand::ask_location_demand` meets its contract. Assumes nothing.
use Rattle.std.proofs.Common.{◌∙◌}
use Rattle.element_writers.specs.LocationAsked.{location_demand-asked}
use Rattle.element_writers.proofs.group_identity_location_demand.ask_location_demand.Goals as goal

pub returns-then-o : goal.returns-then-o
returns-then-o c =
    rw c.if-o.true (c.location_of.ensures.0 ∙ location_demand-asked c.args.o.now.value c.ask_list.ensures.0, c.location_of.ensures.1)
