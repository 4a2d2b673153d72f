-- `elements::structure::read_structure_slot` meets its contract: by the laws of a slot.
use Rattle.bits.specs.PlacedLaws.{from, refused_by}
use Rattle.elements.specs.Kinds.{row, identifier_of, content}
use Rattle.elements.specs.GroupAnswers.{structure_slot, structure_slot_answer}
use Rattle.elements.proofs.PlacedOptional.{known, ends}
use Rattle.elements.proofs.Verdicts.{answer, verdict_to, verdict_refused}
use Rattle.elements.proofs.PlacedTable.{front-outside, front-absent}
use Rattle.elements.proofs.PlacedLocations.{row-refused, row_read}
use Rattle.elements.proofs.structure.read_structure_slot.Goals as goal

pub returns-in_default : goal.returns-in_default
unfolding structure_slot
returns-in_default g c =
    let k = g.S.Structure.kind in
    rw c.absent.ensures
    (answer (structure_slot_answer k) (front-outside identifier_of content (row c.args.identifier k.kind) _ (refused_by c.read_slot_front-f.ensures c.unwrap_err.ensures)))

pub returns-in_default-front : goal.returns-in_default-front
unfolding structure_slot
returns-in_default-front g c =
    let k = g.S.Structure.kind in
    rw c.absent-in_default-front.ensures
    (answer (structure_slot_answer k)
    (front-absent identifier_of content (row c.args.identifier k.kind) _ (known (from c.in-Ok.ensures) c.in_default-front.is) (ends g.met.S.ReadStructure.shaped.absent)))

pub returns-in_default-v : goal.returns-in_default-v
returns-in_default-v g c =
    let k = g.S.Structure.kind in
    rw (c.absent-in_default-v.ensures, c.in_default-v.is)
    (answer (structure_slot_answer k)
    (row-refused k g.met.S.ReadStructure.shaped c.args.identifier (known (from c.in-Ok.ensures) c.in-Some.is) (verdict_refused _ c.from_bitbuf-r.ensures c.in_default-v.is)))

pub returns : goal.returns
returns g c =
    let k = g.S.Structure.kind in
    rw c.optional.ensures
    (answer (structure_slot_answer k)
    (row_read k g.met.S.ReadStructure.shaped c.args.identifier (known (from c.in-Ok.ensures) c.in-Some.is) (verdict_to _ c.from_bitbuf-r.ensures c.in-Ok-v.is)))
