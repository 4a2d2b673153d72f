-- `elements::typed_pdu_fields::read_closing_mbit` meets its contract: a field, and a test of it.
use Rattle.std.specs.Prelude.{◌≡◌}
use Rattle.std.proofs.Common.{arith, eq-eqb, ne_eqb}
use Rattle.bits.specs.Reader.{word}
use Rattle.bits.specs.ReaderLaws.{local·rules}
use Rattle.bits.specs.PlacedLaws.{so, from, handed_up_moved, step, stop}
use Rattle.bits.specs.PlacedTimes.{passed, failed}
use Rattle.elements.specs.Table.{closing}
use Rattle.elements.proofs.typed_pdu_fields.read_closing_mbit.Goals as goal

pub returns-in_err-m : goal.returns-in_err-m
unfolding word closing
returns-in_err-m c = handed_up_moved _ c.from_residual.ensures.1 (stop _ (from c.in_err-m.ensures))

pub returns-then-m-eq0 : goal.returns-then-m-eq0
unfolding word closing
returns-then-m-eq0 c =
    let unset : c.in_ok-m.m ≡ 0 = omega (arith, c.if-m-eq0.true) in
    so (step _ (from c.in_ok-m.ensures) (search local·rules) (passed _ (eq-eqb _ _ unset)))

pub returns : goal.returns
unfolding word closing
returns c = so (step _ (from c.in_ok-m.ensures) (search local·rules) (failed _ (ne_eqb _ _ (λ e. c.if-m-eq0.false (omega (arith, e))))))
