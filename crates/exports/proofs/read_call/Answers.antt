-- `exports::read_call` meets its contract: question 1, and then the message. Assumes nothing.
use mathlib.Core.Path.{sym, ◌∙◌}
use Rattle.bits.specs.PlacedLaws.{Fact, fact}
use Rattle.exports.specs.ReadLaws.{bad_read, unknown_read, good_read, good_read_window}
use Rattle.exports.proofs.read_call.Goals as goal
use Rattle.exports.proofs.read_call.Goals.{Then-is_good_call}

-- question 1 is passed, and the window is short
abbrev good : Then-is_good_call → Fact
good t = fact (sym t.is_good_call.ensures ∙ t.if-is_good_call.true)

abbrev window : Then-is_good_call → Fact
window t = let a = t.args in fact (good_read_window a.wanted _ a.c.at a.c.end (good t).holds)

pub read_into-requires : goal.read_into-requires
read_into-requires c = (window ((goal.at.read_into-requires c).Then-is_good_call)).holds

pub returns-in-Some-Demand : goal.returns-in-Some-Demand
returns-in-Some-Demand c =
    let a = c.args in
    let named = sym (rw c.in-Some-Demand.field-0-is at c.in-Some-Demand.ensures) in
    let r = good_read a.message a.wanted a.octets.now a.c.at a.c.end a.flat.now named (good ((goal.at.returns-in-Some-Demand c).Then-is_good_call)).holds _ _
    (c.read_into.ensures.result, c.read_into.ensures.buffer) in
    record { result = r.0; buffer = r.1 }

pub read_into-requires-in-Some-Accept : goal.read_into-requires-in-Some-Accept
read_into-requires-in-Some-Accept c = (window ((goal.at.read_into-requires-in-Some-Accept c).Then-is_good_call)).holds

pub returns-in-Some-Accept : goal.returns-in-Some-Accept
returns-in-Some-Accept c =
    let a = c.args in
    let named = sym (rw c.in-Some-Accept.field-0-is at c.in-Some-Accept.ensures) in
    let r = good_read a.message a.wanted a.octets.now a.c.at a.c.end a.flat.now named (good ((goal.at.returns-in-Some-Accept c).Then-is_good_call)).holds _ _
    (c.read_into-in-Some-Accept.ensures.result, c.read_into-in-Some-Accept.ensures.buffer) in
    record { result = r.0; buffer = r.1 }

pub read_into-requires-in-Some-AttachDetach : goal.read_into-requires-in-Some-AttachDetach
read_into-requires-in-Some-AttachDetach c = (window ((goal.at.read_into-requires-in-Some-AttachDetach c).Then-is_good_call)).holds

pub returns-in-Some-AttachDetach : goal.returns-in-Some-AttachDetach
returns-in-Some-AttachDetach c =
    let a = c.args in
    let named = sym (rw c.in-Some-AttachDetach.field-0-is at c.in-Some-AttachDetach.ensures) in
    let r = good_read a.message a.wanted a.octets.now a.c.at a.c.end a.flat.now named (good ((goal.at.returns-in-Some-AttachDetach c).Then-is_good_call)).holds _ _
    (c.read_into-in-Some-AttachDetach.ensures.result, c.read_into-in-Some-AttachDetach.ensures.buffer) in
    record { result = r.0; buffer = r.1 }

pub returns-in-None : goal.returns-in-None
returns-in-None c =
    let a = c.args in
    let r = unknown_read a.message a.wanted a.octets.now a.c.at a.c.end a.flat.now (sym c.in-None.ensures) in
    record { result = r.0; buffer = r.1 }

pub returns : goal.returns
returns c =
    let a = c.args in
    let r = bad_read a.message a.wanted a.octets.now a.c.at a.c.end a.flat.now (sym c.is_good_call.ensures ∙ c.if-is_good_call.false) in
    record { result = r.0; buffer = r.1 }
