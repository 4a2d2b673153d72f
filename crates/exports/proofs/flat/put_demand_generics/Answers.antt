-- `exports::flat::put_demand_generics` meets its contract. Assumes nothing.
use Rattle.exports.specs.FlatLaws.{◌⨟◌}
use Rattle.exports.proofs.flat.put_demand_generics.Goals as goal

pub returns : goal.returns
returns c =
    c.put_type3-a.ensures ⨟ c.put_type3-b.ensures ⨟ c.put_type3-d.ensures ⨟ c.put_type3.ensures
