-- `exports::flat::put_list` meets its contract. The loop's invariant: the groups so far are put behind the count.
use Rattle.std.specs.Prelude.{length}
use Rattle.exports.specs.FlatLaws.{Shown}
use Rattle.exports.proofs.flat.put_list.Given as goal

abbrev pub invariant-loop-g : goal.invariant-loop-g
invariant-loop-g g l = Shown g.G.FlatGroup.form g.G.FlatGroup.LENGTH l.g-items (length l.g-items) l.initial.flat l.initial.place l.flat l.place l.g-index
