-- `exports::flat::put_class` meets its contract. The loop's invariant: the fields so far are put behind the presence octet.
use Rattle.exports.specs.Flat.{flat_field}
use Rattle.exports.specs.FlatLaws.{Shown}
use Rattle.exports.proofs.flat.put_class.Given as goal

abbrev pub invariant-loop-value : goal.invariant-loop-value
invariant-loop-value l = Shown (flat_field l.o.present) 9 l.value-items 22 l.initial.flat l.initial.place l.flat l.place l.value-index
