-- `exports::flat::put_saving` meets its contract. Assumes nothing.
use Rattle.exports.specs.FlatLaws.{◌⨟◌}
use Rattle.exports.proofs.flat.put_saving.Goals as goal

pub returns : goal.returns
returns c =
    c.put_flag-a.ensures ⨟ c.put_field-b.ensures ⨟ c.put_field-d.ensures ⨟ c.put_field.ensures
