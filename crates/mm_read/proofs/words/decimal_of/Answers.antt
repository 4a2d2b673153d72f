use Rattle.std.proofs.Common.{◌≡◌, ◌+◌, ◌*◌, ◌∙◌, refl, arith, rules}
use Rattle.mm_read.specs.WordsLaws.{decimal_more, decimal_ends, decimal_fits, decimal_stops, decimal_overflows}
use Rattle.mm_read.proofs.words.decimal_of.Goals as goal

pub returns-in_err-d : goal.returns-in_err-d
returns-in_err-d c =
    rw c.from_residual.ensures (decimal_stops _ _ _ c.loop-c-test.true c.in_err-d.ensures.value c.loop-c.invariant.1)

pub returns-in_err-checked_mul : goal.returns-in_err-checked_mul
returns-in_err-checked_mul c =
    rw c.from_residual-in_err-checked_mul.ensures (decimal_overflows _ _ _ _ c.loop-c-test.true c.in_ok-d.ensures.value (omega (arith, c.in_err-checked_mul.ensures)) c.loop-c.invariant.1)

pub returns-in_err-n : goal.returns-in_err-n
returns-in_err-n c =
    rw c.from_residual-in_err-n.ensures (decimal_overflows _ _ _ _ c.loop-c-test.true c.in_ok-d.ensures.value (omega (arith, c.in_err-n.ensures, c.in_ok-checked_mul.ensures, c.from.ensures)) c.loop-c.invariant.1)

pub loop-c-preserved : goal.loop-c-preserved
loop-c-preserved c =
    let e : 10 * c.loop-c.n + c.in_ok-d.d ≡ c.in_ok-n.n = omega (arith, c.in_ok-n.ensures, c.in_ok-checked_mul.ensures, c.from.ensures) in
    (omega (arith, c.in_ok-n.ensures), c.loop-c.invariant.1 ∙ decimal_more _ _ _ _ c.loop-c-test.true c.in_ok-d.ensures.value ∙ rw e refl)

pub returns : goal.returns
returns c = decimal_fits c.args.digits.now _ c.loop-c.invariant.0 (c.loop-c.invariant.1 ∙ decimal_ends _ c.args.digits.now c.loop-c.c-index (search rules))
