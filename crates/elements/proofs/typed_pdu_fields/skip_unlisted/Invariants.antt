-- `elements::typed_pdu_fields::skip_unlisted` meets its contract. The loop's invariant: the answer is that of what stands at the place, where `n`
-- elements were passed before, a bit at least for each. The measure is what is left of the bits.
use Rattle.std.specs.Prelude.{◌≤◌, ◌≡◌, true, length}
use Rattle.bits.specs.Placed.{window, at}
use Rattle.elements.specs.Table.{is_listed}
use Rattle.elements.specs.Kinds.{identifier_of}
use Rattle.elements.specs.Rows.{skipping}
use Rattle.elements.proofs.PlacedTable.{tally}
use Rattle.elements.proofs.typed_pdu_fields.skip_unlisted.Given as goal

abbrev pub invariant-loop-id : goal.invariant-loop-id
invariant-loop-id l =
    (l.n ≤ l.place.at)
    × (at (skipping l.table true) l.octets l.initial.place ≡ at (tally (is_listed identifier_of l.table) l.n) l.octets l.place)

abbrev pub decreases-loop-id : goal.decreases-loop-id
decreases-loop-id l = length (window l.octets l.place)
