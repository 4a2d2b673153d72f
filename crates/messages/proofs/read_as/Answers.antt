-- `messages::read_as` meets its contract: the message's answer is the call's. Assumes nothing.
use mathlib.Core.Path.{◌∙◌}
use Rattle.messages.proofs.PlacedCalls.{taken, not_taken}
use Rattle.messages.proofs.read_as.Goals as goal

pub returns-in_default : goal.returns-in_default
returns-in_default g c =
    let a = c.args in
    c.refused.ensures
    ∙ not_taken g.M.Pdu.message g.met.M.Pdu.kept a.skipping a.octets.now _ c.from_bitbuf-a.ensures c.unwrap_err.ensures

pub answered-requires : goal.answered-requires
answered-requires g c =
    let a = c.args in
    (taken g.M.Pdu.message g.met.M.Pdu.kept a.skipping a.octets.now _ c.from_bitbuf-a.ensures c.in-Ok.is).on

pub returns : goal.returns
returns g c =
    let a = c.args in
    rw (c.answered.ensures, c.alone.ensures) (taken g.M.Pdu.message g.met.M.Pdu.kept a.skipping a.octets.now _ c.from_bitbuf-a.ensures c.in-Ok.is).answer
