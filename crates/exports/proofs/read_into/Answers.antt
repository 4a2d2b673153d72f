-- `exports::read_into` meets its contract: a refusal's number, or the test of the buffer's length decides.
use native.Mathlib.Omega.{arith}
use mathlib.Core.Path.{◌∙◌}
use Rattle.exports.specs.FlatLaws.{numbered-up}
use Rattle.exports.specs.ReadLaws.{filled-refused, filled-read}
use Rattle.exports.proofs.read_into.Goals as goal

pub returns-in_err-n : goal.returns-in_err-n
returns-in_err-n g c =
    let a = c.args in
    let r = filled-refused g.M.Pdu.message g.met.M.Pdu.kept a.skipping a.octets.now a.c a.flat.now c.from_bitbuf-a.ensures c.in_err-n.was in
    record { result = numbered-up _ _ c.from_residual.ensures.1 r.0; buffer = r.1 }

pub overflow_sub-result : goal.overflow_sub-result
overflow_sub-result g c =
    let a = c.args in
    (filled-read g.M.Pdu.message g.met.M.Pdu.kept a.skipping a.octets.now a.c a.flat.now c.from_bitbuf-a.ensures c.in_ok-n.was).on

pub overflow_cast-result : goal.overflow_cast-result
overflow_cast-result g c =
    let a = c.args in
    let few = (filled-read g.M.Pdu.message g.met.M.Pdu.kept a.skipping a.octets.now a.c a.flat.now c.from_bitbuf-a.ensures c.in_ok-n.was).few c.requires.1 in
    record { fits = omega arith }

pub returns-then-fill : goal.returns-then-fill
returns-then-fill g c =
    let a = c.args in
    let fits = rw c.fill.ensures.fits at c.if-fill.true in
    let r = (filled-read g.M.Pdu.message g.met.M.Pdu.kept a.skipping a.octets.now a.c a.flat.now c.from_bitbuf-a.ensures c.in_ok-n.was).long fits in
    record { result = r.0; buffer = (rw fits at c.fill.ensures.buffer) ∙ r.1 }

pub returns : goal.returns
returns g c =
    let a = c.args in
    let fits = rw c.fill.ensures.fits at c.if-fill.false in
    let r = (filled-read g.M.Pdu.message g.met.M.Pdu.kept a.skipping a.octets.now a.c a.flat.now c.from_bitbuf-a.ensures c.in_ok-n.was).short fits in
    record { result = r.0; buffer = (rw fits at c.fill.ensures.buffer) ∙ r.1 }
