-- `message_writers::u_location_update_demand::class_mode_and_la` meets its contract. Assumes nothing.
use Rattle.std.proofs.Common.{append-nil, append_assoc}
use Rattle.bits.specs.DigitsLaws.{joined-twice, ◌▹◌}
use Rattle.message_writers.proofs.PartsLaws.{la_bits, holds-as}
use Rattle.message_writers.proofs.u_location_update_demand.class_mode_and_la.Goals as goal

pub returns : goal.returns
returns c =
    let la = joined-twice c.then_type2-l.ensures (rw c.then_some.ensures at c.then_if.ensures) in
    holds-as (c.type2_class-k.ensures ▹ c.then_type2-m.ensures ▹ (rw (la_bits c.args.d.now.la_information) at la)) (simp (append_assoc, append-nil))
