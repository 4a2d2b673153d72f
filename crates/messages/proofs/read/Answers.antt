-- `messages::read` meets its contract: question 1, then the message. Assumes nothing.
use mathlib.Core.Path.{sym, ◌∙◌}
use Rattle.bits.specs.PlacedLaws.{Fact, fact}
use Rattle.messages.specs.Calls.{message_of, reading}
use Rattle.messages.proofs.PlacedCalls.{good_call_lem, bad_call_lem, named_call}
use Rattle.messages.specs.declared.Message.TheVariants as M
use Rattle.messages.proofs.read.Goals as goal
use Rattle.messages.proofs.read.Goals.{Then-is_good_call}

-- question 1 is passed
abbrev good : Then-is_good_call → Fact
good c = fact (sym c.is_good_call.ensures ∙ c.if-is_good_call.true)

pub returns-in-Some-Demand : goal.returns-in-Some-Demand
returns-in-Some-Demand c =
    let a = c.args in
    let known = rw c.in-Some-Demand.field-0-is at (sym c.in-Some-Demand.ensures) in
    c.read_as.ensures ∙ good_call_lem M.Demand a.wanted a.octets.now a.first a.end (good ((goal.at.returns-in-Some-Demand c).Then-is_good_call)).holds
    ∙ named_call a.message known a.wanted a.octets.now a.first a.end

pub returns-in-Some-Accept : goal.returns-in-Some-Accept
returns-in-Some-Accept c =
    let a = c.args in
    let known = rw c.in-Some-Accept.field-0-is at (sym c.in-Some-Accept.ensures) in
    c.read_as-in-Some-Accept.ensures ∙ good_call_lem M.Accept a.wanted a.octets.now a.first a.end (good ((goal.at.returns-in-Some-Accept c).Then-is_good_call)).holds
    ∙ named_call a.message known a.wanted a.octets.now a.first a.end

pub returns-in-Some-AttachDetach : goal.returns-in-Some-AttachDetach
returns-in-Some-AttachDetach c =
    let a = c.args in
    let known = rw c.in-Some-AttachDetach.field-0-is at (sym c.in-Some-AttachDetach.ensures) in
    c.read_as-in-Some-AttachDetach.ensures ∙ good_call_lem M.AttachDetach a.wanted a.octets.now a.first a.end (good ((goal.at.returns-in-Some-AttachDetach c).Then-is_good_call)).holds
    ∙ named_call a.message known a.wanted a.octets.now a.first a.end

pub returns-in-None : goal.returns-in-None
returns-in-None c =
    let a = c.args in
    c.refused.ensures ∙ named_call a.message (sym c.in-None.ensures) a.wanted a.octets.now a.first a.end

pub returns : goal.returns
unfolding reading
returns c =
    let a = c.args in
    c.refused-2.ensures ∙ bad_call_lem (message_of a.message) a.wanted a.octets.now a.first a.end (sym c.is_good_call.ensures ∙ c.if-is_good_call.false)
