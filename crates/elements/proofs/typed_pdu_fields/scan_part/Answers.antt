-- `elements::typed_pdu_fields::scan_part` meets its contract: by the laws of a part's elements, one at a turn.
use Rattle.std.specs.Prelude.{◌+◌, ◌-◌, ◌≤◌, not, length, drop}
use Rattle.std.proofs.Common.{arith, sym, ◌∙◌, length-drop, take_all}
use Rattle.std.proofs.lemmas.List.Sums.{prefix_len-le-length}
use Rattle.bits.specs.Placed.{placed}
use Rattle.bits.specs.PlacedLaws.{Gives, by, from, refused_by}
use Rattle.elements.proofs.Verdicts.{answer}
use Rattle.elements.proofs.PlacedTable.{skip-most, filled, resumed_end, resumed_unskipped, resumed_broken}
use Rattle.elements.proofs.PlacedPart.{slot_unseen, Looked, reached, empty-behind, own-refused, own-read, own-on, empty-on}
use Rattle.elements.specs.Table.{is_listed}
use Rattle.elements.specs.Kinds.{identifier_of}
use Rattle.elements.specs.Rows.{no_generics, opened_by}
use Rattle.elements.proofs.Parts.{behind-most, no_slots_lem, no_behind, part-read}
use Rattle.elements.specs.Answers.{slots_answer}
use Rattle.elements.proofs.Tables.{next-row, no-more_rows, slots-few}
use Rattle.elements.proofs.typed_pdu_fields.scan_part.Goals as goal
use Rattle.elements.proofs.typed_pdu_fields.scan_part.Goals.{After-loop-i, After-slots_before-i}

-- behind the loop: the slots are read
all_slots : (c : After-loop-i)
    → let a = c.args in
    let l = c.loop-i in
    Gives (filled a.table.now a.wanted no_generics a.from c.part_of-slots.result.now) a.octets.now a.c
    (placed (record { skipped = l.n; generics = l.generics }) l.place)
all_slots c =
    let l = c.loop-i in
    by (sym l.invariant.same) (resumed_end c.args.table.now c.args.wanted l.generics (c.args.from + l.i) l.n (no-more_rows _ _ c.loop-i-test.false)).eq

-- the look at an element
looked : (c : After-slots_before-i)
    → let a = c.args in
    let l = c.loop-i in
    Looked a.table.now a.wanted a.octets.now l.place c.in-Ok.c1 c.in-Ok-l.c2 c.in-Ok.m c.in-Ok-l.id c.part_of-slots.result.now l.generics a.from l.i c.slots_before-i.result
looked c =
    let l = c.loop-i in
    let slots = c.part_of-slots.result.now in
    record {
      skipped = from c.in-Ok.ensures;
      seen = from c.in-Ok-l.ensures;
      some = c.loop-i-test.true;
      before = rw (take_all (length slots - l.i) (drop l.i slots) (omega (arith, length-drop l.i slots))) at c.slots_before-i.ensures;
      empty = l.invariant.empty;
    }

pub returns-in_default : goal.returns-in_default
returns-in_default c =
    rw (← c.part_of-slots.ensures) (c.refused.ensures ∙ answer slots_answer (no_slots_lem _ _ _ _ _ (by (sym c.loop-i.invariant.same)
    (resumed_unskipped _ _ _ _ _ (next-row _ _ c.loop-i-test.true) (refused_by c.skip_if-s.ensures c.unwrap_err.ensures)).eq)))

pub returns-in_default-l : goal.returns-in_default-l
returns-in_default-l c =
    rw (← c.part_of-slots.ensures) (c.refused-in_default-l.ensures ∙ answer slots_answer (no_slots_lem _ _ _ _ _ (by (sym c.loop-i.invariant.same)
    (resumed_broken _ _ _ _ _ (next-row _ _ c.loop-i-test.true) (from c.in-Ok.ensures) (slot_unseen (refused_by c.peek_type34_mbit_and_id-l.ensures c.unwrap_err-in_default-l.ensures) _)).eq)))

pub overflow_add-n : goal.overflow_add-n
overflow_add-n c =
    let m = skip-most (is_listed identifier_of c.args.table.now) c.args.wanted (from c.in-Ok.ensures) in
    grind (arith, c.loop-i.invariant.few)

pub overflow_add-i : goal.overflow_add-i
overflow_add-i c =
    let slots = c.part_of-slots.result.now in
    let few : length slots ≤ 8 - c.args.from = rw (← c.part_of-slots.ensures) at (slots-few c.args.table.now c.args.from c.args.to) in
    let p = prefix_len-le-length (λ r. not (opened_by c.in-Ok-l.id r)) (drop c.loop-i.i slots) in
    omega (arith, (looked c).before, length-drop c.loop-i.i slots)

pub returns-in_default-g : goal.returns-in_default-g
returns-in_default-g c =
    let x = looked ((goal.at.returns-in_default-g c).After-slots_before-i) in
    rw (← c.part_of-slots.ensures) (c.refused-in_default-g.ensures ∙ answer slots_answer (no_slots_lem _ _ _ _ _ (by (sym c.loop-i.invariant.same)
    (own-refused _ _ x c.if-i-slots.true (refused_by c.parse_generic-g.ensures c.unwrap_err-in_default-g.ensures) c.loop-i.n).eq)))

pub loop-i-preserved-then-i-slots : goal.loop-i-preserved-then-i-slots
loop-i-preserved-then-i-slots c =
    let l = c.loop-i in
    let x = looked ((goal.at.loop-i-preserved-then-i-slots c).After-slots_before-i) in
    let m = skip-most (is_listed identifier_of c.args.table.now) c.args.wanted x.skipped in
    let on = own-on _ _ x c.if-i-slots.true (from c.in-Ok-g.ensures) in
    record {
      few = omega (arith, l.invariant.few);
      empty = empty-on _ _ x c.if-i-slots.true (from c.in-Ok-g.ensures);
      same = l.invariant.same ∙ own-read _ _ x c.if-i-slots.true (from c.in-Ok-g.ensures) l.n;
    }

pub loop-i-preserved : goal.loop-i-preserved
loop-i-preserved c =
    let l = c.loop-i in
    let x = looked ((goal.at.loop-i-preserved c).After-slots_before-i) in
    let m = skip-most (is_listed identifier_of c.args.table.now) c.args.wanted x.skipped in
    record { few = omega (arith, l.invariant.few); empty = empty-behind _ _ x; same = l.invariant.same ∙ reached _ _ x l.n }

pub returns-in_default-b : goal.returns-in_default-b
returns-in_default-b c =
    rw (← c.part_of-slots.ensures) (c.refused-in_default-b.ensures ∙ answer slots_answer (no_behind _ _ _ _ _ (all_slots ((goal.at.returns-in_default-b c).After-loop-i))
    (refused_by c.read_behind-b.ensures c.unwrap_err-in_default-b.ensures)))

pub overflow_add-result : goal.overflow_add-result
overflow_add-result c =
    let back = behind-most c.args.table.now c.args.wanted c.args.last (from c.in-Ok-b.ensures) in
    grind (arith, c.loop-i.invariant.few)

pub returns : goal.returns
returns c = rw (← c.part_of-slots.ensures) (answer slots_answer (part-read _ _ _ _ _ (all_slots ((goal.at.returns c).After-loop-i)) (from c.in-Ok-b.ensures)))
