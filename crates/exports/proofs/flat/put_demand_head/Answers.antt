-- `exports::flat::put_demand_head` meets its contract. Assumes nothing.
use Rattle.exports.specs.FlatLaws.{◌⨟◌}
use Rattle.exports.proofs.flat.put_demand_head.Goals as goal

pub returns : goal.returns
returns c =
    c.put_field-a.ensures ⨟ c.put_field-b.ensures ⨟ c.put_field-d.ensures ⨟ c.put_field-e.ensures ⨟ c.put_field.ensures
