-- `measure::writes` meets its contract. The loop's invariant: so many calls are done. Assumes nothing.
use Rattle.measure.specs.Repeated.{Turned}
use Rattle.measure.proofs.writes.Given as goal

abbrev pub invariant-loop : goal.invariant-loop
invariant-loop g l = Turned g.M.Pdu.message l.c.at l.c.end (g.M.OwnRecord.of l.d) l.counter l.initial.octets l.bits l.octets
