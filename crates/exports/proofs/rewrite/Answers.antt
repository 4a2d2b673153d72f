-- `exports::rewrite` meets its contract: the first refusal met, or the bits written.
use native.Mathlib.Omega.{arith}
use mathlib.Core.Path.{◌∙◌}
use Rattle.std.specs.Prelude.{Some}
use Rattle.exports.specs.FlatLaws.{numbered-up}
use Rattle.exports.specs.RewriteLaws.{rewrite_refused, rewrite_taken, rewrite_bad, written-refused, written-taken, written-most}
use Rattle.exports.proofs.rewrite.Goals as goal

pub returns-in_err-a : goal.returns-in_err-a
returns-in_err-a g c =
    let a = c.args in
    let r = rewrite_refused g.M.Pdu.message a.octets.now a.c.at a.c.end a.out.now a.to.at a.to.end g.met.M.Pdu.kept (rw c.is_good_call.ensures at c.if-is_good_call.true) c.from_bitbuf-a.ensures c.in_err-a.was in
    record { result = numbered-up _ _ c.from_residual.ensures.1 r.0; octets = r.1 }

pub returns-in_err-w : goal.returns-in_err-w
returns-in_err-w g c =
    let a = c.args in
    let r = rewrite_taken g.M.Pdu.message a.octets.now a.c.at a.c.end a.out.now a.to.at a.to.end g.met.M.Pdu.kept (rw c.is_good_call.ensures at c.if-is_good_call.true) c.from_bitbuf-a.ensures c.in_ok-a.was
    c.write_as-w.ensures.answer c.write_as-w.ensures.octets in
    record { result = numbered-up _ _ c.from_residual-in_err-w.ensures.1 (written-refused _ c.in_err-w.was ∙ r.0); octets = r.1 }

pub overflow_cast-result : goal.overflow_cast-result
overflow_cast-result g c =
    let a = c.args in
    let most = written-most g.M.Pdu.message a.out.now a.to.at a.to.end (g.M.OwnRecord.of c.from_bitbuf-a.result.«record») in
    record { fits = rw c.write_as-w.ensures.answer (omega arith) }

pub returns-then-is_good_call : goal.returns-then-is_good_call
returns-then-is_good_call g c =
    let a = c.args in
    let r = rewrite_taken g.M.Pdu.message a.octets.now a.c.at a.c.end a.out.now a.to.at a.to.end g.met.M.Pdu.kept (rw c.is_good_call.ensures at c.if-is_good_call.true) c.from_bitbuf-a.ensures c.in_ok-a.was
    c.write_as-w.ensures.answer c.write_as-w.ensures.octets in
    record { result = written-taken _ c.in_ok-w.was ∙ r.0; octets = r.1 }

pub returns : goal.returns
returns g c =
    let a = c.args in
    let r = rewrite_bad (Some g.M.Pdu.message) a.octets.now a.c.at a.c.end a.out.now a.to.at a.to.end (rw c.is_good_call.ensures at c.if-is_good_call.false) in
    record { result = r.0; octets = r.1 }
