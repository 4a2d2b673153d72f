-- `elements::group_list::read_nested` meets its contract: by the laws of a list inside a structure.
use Rattle.std.specs.Prelude.{eqb}
use Rattle.std.proofs.Common.{◌∙◌}
use Rattle.bits.specs.Reader.{word}
use Rattle.bits.specs.Placed.{placed}
use Rattle.bits.specs.PlacedLaws.{Gives, from, refused_by, refused_moving}
use Rattle.elements.specs.GroupAnswers.{list_answer, nested_slot_if}
use Rattle.elements.proofs.Verdicts.{answer, returned, verdict_to, verdict_refused}
use Rattle.elements.proofs.PlacedLocations.{list_unannounced, list-refused, list_unclosed, list-closed}
use Rattle.elements.proofs.group_list.read_nested.Goals as goal
use Rattle.elements.proofs.group_list.read_nested.Goals.{In-Ok-v}

-- the list's slot
slotted : (g : _) (c : In-Ok-v g) → let a = c.args in
    Gives (nested_slot_if g.L.GroupList.kind a.identifier (eqb c.in-Ok.obit 1)) a.octets.now c.in-Ok.c1 (placed c.read_list-v.new.list c.in-Ok-v.c2)
slotted g c = verdict_to _ c.read_list-v.ensures c.in-Ok-v.is

pub returns-in_default : goal.returns-in_default
unfolding word
returns-in_default g c =
    let k = g.L.GroupList.kind in
    c.refused.ensures ∙ answer (list_answer k) (list_unannounced k g.met.L.GroupList.local _ (refused_by c.read-o.ensures c.unwrap_err.ensures))

pub returns-in_default-v : goal.returns-in_default-v
unfolding word
returns-in_default-v g c =
    let k = g.L.GroupList.kind in
    let e = verdict_refused _ c.read_list-v.ensures c.in_default-v.is in
    returned (list_answer k) c.read_list-v.ensures e (list-refused k g.met.L.GroupList.local _ (from c.in-Ok.ensures) e)

pub returns-in_default-e : goal.returns-in_default-e
unfolding word
returns-in_default-e g c =
    let k = g.L.GroupList.kind in
    c.refused-in_default-e.ensures ∙ answer (list_answer k)
    (list_unclosed k g.met.L.GroupList.local _ (from c.in-Ok.ensures) (slotted g (goal.at.returns-in_default-e g c).In-Ok-v)
    (refused_moving c.read_closing_mbit_if-e.ensures c.unwrap_err-in_default-e.ensures))

pub returns : goal.returns
unfolding word
returns g c =
    let k = g.L.GroupList.kind in
    answer (list_answer k)
    (list-closed k g.met.L.GroupList.local _ (from c.in-Ok.ensures) (slotted g (goal.at.returns g c).In-Ok-v) (from c.in-Ok-e.ensures))
