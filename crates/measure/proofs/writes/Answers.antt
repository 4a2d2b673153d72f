-- `measure::writes` meets its contract. Assumes nothing.
use Rattle.measure.specs.Repeated.{unturned, turned}
use Rattle.measure.proofs.writes.Goals as goal

pub loop-init : goal.loop-init
loop-init g c = unturned _ _ _ _ _

pub loop-preserved : goal.loop-preserved
loop-preserved g c = turned _ _ _ _ _ c.loop.counter c.loop.invariant c.write_as-w.ensures.answer c.write_as-w.ensures.octets
