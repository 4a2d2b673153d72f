-- `message_writers::group_identity_downlink::write_downlinks` meets its contract. Assumes nothing.
use Rattle.bits.specs.PutsLaws.{nothing}
use Rattle.message_writers.proofs.group_identity_downlink.write_downlinks.Goals as goal

pub returns : goal.returns
returns c = rw c.if-list.false nothing
