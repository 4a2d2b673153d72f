-- `elements::typed_pdu_fields::read_list_front` meets its contract: by the laws of a slot in two parts, and of bits that begin with their
-- number of entries.
use Rattle.std.proofs.Common.{arith}
use Rattle.std.specs.Prelude.{Option, Some}
use Rattle.bits.specs.Reader.{got, ◌>>=◌, word}
use Rattle.bits.specs.ReaderLaws.{local·rules}
use Rattle.bits.specs.Placed.{Placed}
use Rattle.bits.specs.PlacedLaws.{Gives, so, from, handed_up, step, stop, done}
use Rattle.elements.specs.Fronts.{front_of, front_at, list_front}
use Rattle.elements.proofs.PlacedOptional.{known}
use Rattle.elements.proofs.PlacedTable.{alone, front-outside, front-absent, front-there}
use Rattle.elements.proofs.PlacedLists.{entries_unnumbered, entries_underflow, entries-there}
use Rattle.elements.specs.declared.typed_pdu_fields.ListFront.{ListFront}
use Rattle.elements.proofs.typed_pdu_fields.read_list_front.Goals as goal
use Rattle.elements.proofs.typed_pdu_fields.read_list_front.Goals.{In-Some}

-- the list is there, and what its length and its number of entries give is its front
opened : (c : In-Some) → let a = c.args in
    (x : Placed (Option ListFront)) → Gives (front_at c.in-Some.size >>= λ f. got (Some f)) a.octets.now c.in_ok-front.c1 x
    → Gives (list_front a.identifier a.there) a.octets.now a.c x
unfolding list_front
opened c x g =
    rw c.if-not-there.false
    (alone (front-there (λ i. i) (λ i. front_at) c.args.identifier got (known (from c.in_ok-front.ensures) c.in-Some.is) g))

pub returns-in_err-front : goal.returns-in_err-front
unfolding list_front
returns-in_err-front c =
    handed_up _ c.from_residual.ensures.1
    (rw c.if-not-there.false (alone (front-outside (λ i. i) (λ i. front_at) c.args.identifier got (from c.in_err-front.ensures))))

pub returns-in_err-count : goal.returns-in_err-count
unfolding word
returns-in_err-count c =
    handed_up _ c.from_residual-in_err-count.ensures.1
    (opened ((goal.at.returns-in_err-count c).In-Some) _ (stop _ (entries_unnumbered front_of _ (from c.in_err-count.ensures))))

pub returns-then-size-lt6 : goal.returns-then-size-lt6
unfolding word
returns-then-size-lt6 c =
    so (opened ((goal.at.returns-then-size-lt6 c).In-Some) _ (stop _ (entries_underflow front_of _ (from c.in_ok-count.ensures) c.if-size-lt6.true)))

pub returns : goal.returns
unfolding word
returns c =
    so (opened ((goal.at.returns c).In-Some) _
    (step _ (entries-there front_of _ (from c.in_ok-count.ensures) (omega arith) done) (search local·rules depth 8) done))

pub returns-in_default : goal.returns-in_default
unfolding list_front
returns-in_default c =
    so (rw c.if-not-there.false (alone (front-absent (λ i. i) (λ i. front_at) c.args.identifier got (known (from c.in_ok-front.ensures) c.in_default.is) done)))

pub returns-then-not-there : goal.returns-then-not-there
unfolding list_front
returns-then-not-there c = so (rw c.if-not-there.true done)
