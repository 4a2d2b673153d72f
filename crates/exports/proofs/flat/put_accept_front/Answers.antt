-- `exports::flat::put_accept_front` meets its contract. Assumes nothing.
use Rattle.exports.specs.FlatLaws.{◌⨟◌}
use Rattle.exports.proofs.flat.put_accept_front.Goals as goal

pub returns : goal.returns
returns c =
    c.put_saving-a.ensures ⨟ c.put_field-b.ensures ⨟ c.put_type4-d.ensures ⨟ c.put_type3.ensures
