-- `elements::typed_pdu_fields::skip_unlisted` meets its contract: by the laws of the elements that are passed, one at a turn.
use Rattle.std.specs.Prelude.{refl}
use Rattle.std.proofs.Common.{rules, arith, sym, ◌∙◌}
use Rattle.bits.specs.Reader.{word}
use Rattle.bits.specs.ReaderLaws.{local·rules}
use Rattle.bits.specs.Placed.{placed}
use Rattle.bits.specs.PlacedLaws.{Gives, by, from, handed_up, step, stop, Fact, fact}
use Rattle.bits.specs.PlacedTimes.{alike}
use Rattle.elements.proofs.PlacedTable.{body, body_tail, body-on, tally-start, tally-outside, tally-ends, tally-listed, tally-on}
use Rattle.elements.proofs.typed_pdu_fields.skip_unlisted.Goals as goal
use Rattle.elements.proofs.typed_pdu_fields.skip_unlisted.Goals.{Else-is_listed, In_ok-place}

-- the element that stands here is not listed
abbrev unlisted : Else-is_listed → Fact
unlisted c = fact (sym c.is_listed.ensures ∙ c.if-is_listed.false)

-- its content is passed
passed : (c : In_ok-place) → Gives body c.args.octets.now c.in_ok-id.c1 (placed tt c.in_ok-place.place)
unfolding word
passed c = step _ (from c.in_ok-len.ensures) (search local·rules) (from c.in_ok-place.ensures)

pub loop-id-init : goal.loop-id-init
loop-id-init c = (search rules, (alike _ (tally-start _ _) (by refl refl)).eq)

pub returns-in_err-id : goal.returns-in_err-id
returns-in_err-id c = handed_up _ c.from_residual.ensures.1 (by (sym c.loop-id.invariant.1) (tally-outside _ _ (from c.in_err-id.ensures)).eq)

pub returns-in_default : goal.returns-in_default
returns-in_default c = sym (c.loop-id.invariant.1 ∙ (tally-ends _ _ (from c.in_ok-id.ensures) c.in_default.is).eq)

pub returns-then-is_listed : goal.returns-then-is_listed
returns-then-is_listed c =
    sym (c.loop-id.invariant.1 ∙ (tally-listed _ _ (from c.in_ok-id.ensures) c.in-Some.is (sym c.is_listed.ensures ∙ c.if-is_listed.true)).eq)

pub returns-in_err-len : goal.returns-in_err-len
unfolding word
returns-in_err-len c =
    handed_up _ c.from_residual-in_err-len.ensures.1
    (by (sym c.loop-id.invariant.1) (tally-on _ _ (from c.in_ok-id.ensures) c.in-Some.is
    (unlisted ((goal.at.returns-in_err-len c).Else-is_listed)).holds
    (stop _ (stop _ (from c.in_err-len.ensures)))).eq)

pub returns-in_err-place : goal.returns-in_err-place
unfolding word
returns-in_err-place c =
    handed_up _ c.from_residual-in_err-place.ensures.1
    (by (sym c.loop-id.invariant.1) (tally-on _ _ (from c.in_ok-id.ensures) c.in-Some.is
    (unlisted ((goal.at.returns-in_err-place c).Else-is_listed)).holds
    (stop _ (step _ (from c.in_ok-len.ensures) (search local·rules) (from c.in_err-place.ensures)))).eq)

pub overflow_add-n : goal.overflow_add-n
overflow_add-n c =
    let m = (body-on (from c.in_ok-id.ensures) (passed ((goal.at.overflow_add-n c).In_ok-place))).0 in
    omega (arith)

pub loop-id-smaller : goal.loop-id-smaller
loop-id-smaller c = (body-on (from c.in_ok-id.ensures) (passed ((goal.at.loop-id-smaller c).In_ok-place))).1

pub loop-id-preserved : goal.loop-id-preserved
loop-id-preserved c =
    let e = from c.in_ok-id.ensures in
    let g = passed ((goal.at.loop-id-preserved c).In_ok-place) in
    let m = (body-on e g).0 in
    (omega arith, c.loop-id.invariant.1 ∙ (tally-on _ _ e c.in-Some.is (unlisted ((goal.at.loop-id-preserved c).Else-is_listed)).holds (step _ g body_tail (by refl refl))).eq)
