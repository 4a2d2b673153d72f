-- `measure::measured` meets its contract: the message's answer is the call's. Assumes nothing.
use native.Mathlib.Omega.{arith}
use mathlib.Core.Path.{◌∙◌}
use Rattle.measure.specs.MeasuredLaws.{Measured, measured_bad, measured-refused, measured-read}
use Rattle.measure.proofs.measured.Goals as goal
use Rattle.measure.proofs.measured.Goals.{In-Ok}

-- what a message read tells
told : (g : _) (c : In-Ok g) → Measured g.M.Pdu.message c.args.wanted c.args.octets.now c.args.c.at c.args.c.end c.in-Ok.c1
told g c =
    measured-read g.M.Pdu.message c.args.wanted c.args.octets.now c.args.c.at c.args.c.end g.met.M.Pdu.kept (rw c.is_good_call.ensures at c.if-is_good_call.true) c.from_bitbuf-a.ensures c.in-Ok.is

pub overflow_sub-result : goal.overflow_sub-result
overflow_sub-result g c = (told g (goal.at.overflow_sub-result g c).In-Ok).on

pub overflow_mul-result : goal.overflow_mul-result
overflow_mul-result g c = omega (arith, (told g (goal.at.overflow_mul-result g c).In-Ok).few)

pub returns-in-Ok : goal.returns-in-Ok
returns-in-Ok g c = (told g (goal.at.returns-in-Ok g c).In-Ok).answer

pub returns-in-Err : goal.returns-in-Err
returns-in-Err g c =
    let a = c.args in
    c.number.ensures
    ∙ measured-refused g.M.Pdu.message a.wanted a.octets.now a.c.at a.c.end g.met.M.Pdu.kept (rw c.is_good_call.ensures at c.if-is_good_call.true) c.from_bitbuf-a.ensures c.in-Err.is

pub returns : goal.returns
returns g c =
    let a = c.args in
    c.number-2.ensures ∙ measured_bad g.M.Pdu.message a.wanted a.octets.now a.c.at a.c.end (rw c.is_good_call.ensures at c.if-is_good_call.false)
