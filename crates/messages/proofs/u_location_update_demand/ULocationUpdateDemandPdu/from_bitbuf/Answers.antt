-- `messages::u_location_update_demand::ULocationUpdateDemandPdu::from_bitbuf` meets its contract: the head, then the elements or none.
use mathlib.Core.Path.{refl, ◌∙◌}
use Rattle.bits.specs.Placed.{placed}
use Rattle.bits.specs.PlacedLaws.{Gives, by, from, refused_by}
use Rattle.elements.proofs.Verdicts.{answer}
use Rattle.messages.specs.Calls.{format_of}
use Rattle.messages.specs.declared.Message.TheVariants as M
use Rattle.messages.proofs.PlacedDescribed.{head_tail}
use Rattle.messages.proofs.PlacedMessages.{no_head, no_look, elements_follow, none_follow}
use Rattle.messages.specs.MessageAnswers.{message_answer}
use Rattle.messages.proofs.u_location_update_demand.ULocationUpdateDemandPdu.from_bitbuf.Goals as goal
use Rattle.messages.proofs.u_location_update_demand.ULocationUpdateDemandPdu.from_bitbuf.Goals.{In-Ok}

-- the head
headed : (c : In-Ok) → let a = c.args in Gives (format_of M.Demand).head a.octets.now a.c (placed c.in-Ok.head c.in-Ok.c1)
headed c = from c.in-Ok.ensures

pub returns-in_default : goal.returns-in_default
returns-in_default c =
    c.unread.ensures ∙ answer (message_answer (λ r. r.demand)) (no_head (format_of M.Demand) c.args.skipping (refused_by c.read_head-h.ensures c.unwrap_err.ensures))

pub returns-in_default-e : goal.returns-in_default-e
returns-in_default-e c =
    c.unread-in_default-e.ensures ∙ answer (message_answer (λ r. r.demand)) (no_look (format_of M.Demand) c.args.skipping refl (headed ((goal.at.returns-in_default-e c).In-Ok)) (head_tail M.Demand)
    (refused_by c.element_follows-e.ensures c.unwrap_err-in_default-e.ensures))

pub returns-then-more : goal.returns-then-more
returns-then-more c =
    c.read_elements.ensures ∙ answer (message_answer (λ r. r.demand)) (elements_follow (format_of M.Demand) c.args.skipping refl (headed ((goal.at.returns-then-more c).In-Ok)) (head_tail M.Demand)
    (from c.in-Ok-e.ensures) c.if-more.true (by refl refl))

pub returns : goal.returns
returns c =
    rw (c.record_of.ensures, c.optional-none.ensures, c.none.ensures)
    (answer (message_answer (λ r. r.demand)) (none_follow (format_of M.Demand) c.args.skipping refl (headed ((goal.at.returns c).In-Ok)) (head_tail M.Demand) (from c.in-Ok-e.ensures) c.if-more.false))
