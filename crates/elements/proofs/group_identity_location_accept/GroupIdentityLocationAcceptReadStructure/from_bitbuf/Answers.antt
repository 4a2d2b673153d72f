-- `elements::group_identity_location_accept::GroupIdentityLocationAcceptReadStructure::from_bitbuf` meets its contract: by the laws of a list inside a
-- structure, and of a structure of a declared length.
use Rattle.std.proofs.Common.{◌∙◌}
use Rattle.bits.specs.Reader.{got, ◌>>=◌, word}
use Rattle.bits.specs.ReaderLaws.{local·rules, local_tail}
use Rattle.bits.specs.Placed.{Placed, placed}
use Rattle.bits.specs.PlacedLaws.{Gives, from, refused_by, refused_moving, step, stop}
use Rattle.bits.specs.PlacedTimes.{exact-stop}
use Rattle.elements.specs.Lists.{downlinks}
use Rattle.elements.proofs.ListsLaws.{downlinks_sound}
use Rattle.elements.specs.Locations.{nested, group_identity_downlink_identifier, accept_body, location_accept}
use Rattle.elements.proofs.LocationsLaws.{accept_of, accept_laws}
use Rattle.elements.specs.GroupAnswers.{location_accepts, structure_answer}
use Rattle.elements.proofs.Verdicts.{answer, verdict_to, verdict_refused}
use Rattle.elements.proofs.PlacedLocations.{structure-refused, structure-on, structure-whole, structure-inexact}
use Rattle.elements.specs.declared.group_identity_location_accept.GroupIdentityLocationAccept.{GroupIdentityLocationAccept}
use Rattle.elements.proofs.group_identity_location_accept.GroupIdentityLocationAcceptReadStructure.from_bitbuf.Goals as goal
use Rattle.elements.proofs.group_identity_location_accept.GroupIdentityLocationAcceptReadStructure.from_bitbuf.Goals.{In-Ok-p, In-Ok-v}

-- the answer is read, and the reserved bit passed: behind them stands the list
list-behind : (c : In-Ok-p) (x : Placed GroupIdentityLocationAccept) → let a = c.args in
    Gives (nested downlinks group_identity_downlink_identifier >>= λ l. got (accept_of c.in-Ok.accept_reject l)) a.octets.now c.in-Ok-p.c2 x
    → Gives accept_body a.octets.now a.c x
unfolding word accept_body
list-behind c x g = step _ (from c.in-Ok.ensures) (search local·rules) (step _ (from c.in-Ok-p.ensures) (search local·rules) g)

-- the list, with the closing M-bit
closed : (c : In-Ok-v) → Gives (nested downlinks group_identity_downlink_identifier) c.args.octets.now c.in-Ok-p.c2 (placed c.read_nested-v.new.list c.in-Ok-v.c3)
closed c = verdict_to _ c.read_nested-v.ensures c.in-Ok-v.is

pub returns-in_default : goal.returns-in_default
unfolding word accept_body location_accept
returns-in_default c =
    c.refused.ensures ∙ answer (structure_answer location_accepts) (exact-stop c.args.len (stop _ (refused_by c.read-f.ensures c.unwrap_err.ensures)))

pub returns-in_default-p : goal.returns-in_default-p
unfolding word accept_body location_accept
returns-in_default-p c =
    c.refused-in_default-p.ensures ∙ answer (structure_answer location_accepts) (exact-stop c.args.len (step _ (from c.in-Ok.ensures) (search local·rules)
    (stop _ (refused_moving c.pass-p.ensures c.unwrap_err-in_default-p.ensures))))

pub returns-in_default-v : goal.returns-in_default-v
unfolding location_accept
returns-in_default-v c =
    c.refused-in_default-v.ensures ∙ answer (structure_answer location_accepts)
    (structure-refused downlinks_sound group_identity_downlink_identifier _ (local_tail accept_laws.body-local) (list-behind ((goal.at.returns-in_default-v c).In-Ok-p)) c.args.len
    (verdict_refused _ c.read_nested-v.ensures c.unwrap_err-in_default-v.ensures))

pub overflow_sub-c3 : goal.overflow_sub-c3
overflow_sub-c3 c =
    structure-on downlinks_sound group_identity_downlink_identifier _ (local_tail accept_laws.body-local) (list-behind ((goal.at.overflow_sub-c3 c).In-Ok-p)) c.args.len
    (closed ((goal.at.overflow_sub-c3 c).In-Ok-v))

pub returns-then-c3-c : goal.returns-then-c3-c
unfolding location_accept
returns-then-c3-c c =
    answer (structure_answer location_accepts)
    (structure-whole downlinks_sound group_identity_downlink_identifier _ (local_tail accept_laws.body-local) (list-behind ((goal.at.returns-then-c3-c c).In-Ok-p)) c.args.len
    (closed ((goal.at.returns-then-c3-c c).In-Ok-v)) c.if-c3-c.true)

pub returns : goal.returns
unfolding location_accept
returns c =
    c.refused-2.ensures ∙ answer (structure_answer location_accepts)
    (structure-inexact downlinks_sound group_identity_downlink_identifier _ (local_tail accept_laws.body-local) (list-behind ((goal.at.returns c).In-Ok-p)) c.args.len
    (closed ((goal.at.returns c).In-Ok-v)) c.if-c3-c.false)
