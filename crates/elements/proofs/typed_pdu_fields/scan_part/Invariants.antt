-- `elements::typed_pdu_fields::scan_part` meets its contract. The loop's invariant: the answer of all slots is that of those from `i` on, where `n`
-- elements were skipped before, a bit at least for each; the values so far stand in the array, and behind them nothing. The measure is how many slots are left.
use Rattle.std.specs.Prelude.{◌+◌, ◌-◌, ◌≤◌, ◌≡◌, length, drop}
use Rattle.bits.specs.Placed.{at}
use Rattle.elements.proofs.PlacedTable.{filled, resumed}
use Rattle.elements.specs.Rows.{no_generics}
use Rattle.elements.proofs.typed_pdu_fields.scan_part.Given as goal

abbrev pub invariant-loop-i : goal.invariant-loop-i
invariant-loop-i l =
    record {
      few : l.n ≤ l.place.at;
      empty : drop (l.from + l.i) l.generics ≡ drop (l.from + l.i) no_generics;
      same : at (filled l.table l.wanted l.initial.generics l.from l.slots) l.octets l.initial.place
          ≡ at (resumed l.table l.wanted l.generics (l.from + l.i) l.n (drop l.i l.slots)) l.octets l.place;
    }

abbrev pub decreases-loop-i : goal.decreases-loop-i
decreases-loop-i l = length l.slots - l.i
