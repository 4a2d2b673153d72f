-- `exports::rewrite_call` meets its contract: a message, or none. Assumes nothing.
use Rattle.exports.specs.RewriteLaws.{rewrite_unknown}
use Rattle.exports.proofs.rewrite_call.Goals as goal

pub returns-in-Some-Demand : goal.returns-in-Some-Demand
returns-in-Some-Demand c = let named = rw c.in-Some-Demand.field-0-is at c.in-Some-Demand.ensures in rw (← named) c.rewrite.ensures

pub returns-in-Some-Accept : goal.returns-in-Some-Accept
returns-in-Some-Accept c = let named = rw c.in-Some-Accept.field-0-is at c.in-Some-Accept.ensures in rw (← named) c.rewrite-in-Some-Accept.ensures

pub returns-in-Some-AttachDetach : goal.returns-in-Some-AttachDetach
returns-in-Some-AttachDetach c =
    let named = rw c.in-Some-AttachDetach.field-0-is at c.in-Some-AttachDetach.ensures in
    rw (← named) c.rewrite-in-Some-AttachDetach.ensures

pub returns-in-None : goal.returns-in-None
returns-in-None c =
    let a = c.args in
    let r = rewrite_unknown a.octets.now a.c.at a.c.end a.out.now a.to.at a.to.end in
    rw (← c.in-None.ensures) (record { result = r.0; octets = r.1 })
