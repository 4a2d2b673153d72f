-- `exports::flat::put_type3` meets its contract. Assumes nothing.
use Rattle.exports.specs.FlatLaws.{◌⨟◌}
use Rattle.exports.proofs.flat.put_type3.Goals as goal

pub returns : goal.returns
returns c =
    c.put_field-a.ensures ⨟ c.put_field.ensures
