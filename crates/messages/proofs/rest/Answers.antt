-- `messages::rest` meets its contract: a record's place lies inside the octets. Assumes nothing.
use native.Mathlib.Omega.{arith}
use Rattle.messages.specs.Calls.{message_of, reading}
use Rattle.messages.proofs.PlacedCalls.{place_inside, behind-place, behind-refused}
use Rattle.messages.proofs.rest.Goals as goal

pub returns-in_default : goal.returns-in_default
returns-in_default c =
    let a = c.args in
    behind-refused a.octets.now c.read-r.ensures c.in_default.is

pub overflow_add-k : goal.overflow_add-k
unfolding reading
overflow_add-k c =
    let a = c.args in
    let p = place_inside (message_of a.message) a.wanted a.octets.now a.first a.end c.read-r.ensures c.in-Ok.is in
    omega arith

pub slice_bounds-result-count : goal.slice_bounds-result-count
unfolding reading
slice_bounds-result-count c =
    let a = c.args in
    let p = place_inside (message_of a.message) a.wanted a.octets.now a.first a.end c.read-r.ensures c.in-Ok.is in
    omega arith

pub slice_bounds-result-start : goal.slice_bounds-result-start
slice_bounds-result-start c = slice_bounds-result-count c

pub returns : goal.returns
returns c =
    let a = c.args in
    behind-place a.octets.now c.read-r.ensures c.in-Ok.is
