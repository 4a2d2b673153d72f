-- `message_writers::questions::Answers::first_no` meets its contract: each question by its answer.
use Rattle.std.proofs.lemmas.Bool.{not-true, not-false}
use Rattle.messages.specs.Questions.{tests, first_no}
use Rattle.message_writers.proofs.questions.Answers.first_no.Goals as goal

pub returns-then-not-self : goal.returns-then-not-self
unfolding first_no tests
returns-then-not-self c = rw (not-true _ c.if-not-self.true)

pub returns-then-not-self-2 : goal.returns-then-not-self-2
unfolding first_no tests
returns-then-not-self-2 c = rw (not-false _ c.if-not-self.false, not-true _ c.if-not-self-2.true)

pub returns-then-not-self-3 : goal.returns-then-not-self-3
unfolding first_no tests
returns-then-not-self-3 c = rw (not-false _ c.if-not-self.false, not-false _ c.if-not-self-2.false, not-true _ c.if-not-self-3.true)

pub returns-then-not-self-4 : goal.returns-then-not-self-4
unfolding first_no tests
returns-then-not-self-4 c = rw (not-false _ c.if-not-self.false, not-false _ c.if-not-self-2.false, not-false _ c.if-not-self-3.false, not-true _ c.if-not-self-4.true)

pub returns-then-not-self-5 : goal.returns-then-not-self-5
unfolding first_no tests
returns-then-not-self-5 c =
    rw (
      not-false _ c.if-not-self.false,
      not-false _ c.if-not-self-2.false,
      not-false _ c.if-not-self-3.false,
      not-false _ c.if-not-self-4.false,
      not-true _ c.if-not-self-5.true,
    )

pub returns-then-not-self-6 : goal.returns-then-not-self-6
unfolding first_no tests
returns-then-not-self-6 c =
    rw (
      not-false _ c.if-not-self.false,
      not-false _ c.if-not-self-2.false,
      not-false _ c.if-not-self-3.false,
      not-false _ c.if-not-self-4.false,
      not-false _ c.if-not-self-5.false,
      not-true _ c.if-not-self-6.true,
    )

pub returns-then-not-self-7 : goal.returns-then-not-self-7
unfolding first_no tests
returns-then-not-self-7 c =
    rw (
      not-false _ c.if-not-self.false,
      not-false _ c.if-not-self-2.false,
      not-false _ c.if-not-self-3.false,
      not-false _ c.if-not-self-4.false,
      not-false _ c.if-not-self-5.false,
      not-false _ c.if-not-self-6.false,
      not-true _ c.if-not-self-7.true,
    )

pub returns-then-not-self-8 : goal.returns-then-not-self-8
unfolding first_no tests
returns-then-not-self-8 c =
    rw (
      not-false _ c.if-not-self.false,
      not-false _ c.if-not-self-2.false,
      not-false _ c.if-not-self-3.false,
      not-false _ c.if-not-self-4.false,
      not-false _ c.if-not-self-5.false,
      not-false _ c.if-not-self-6.false,
      not-false _ c.if-not-self-7.false,
      not-true _ c.if-not-self-8.true,
    )

pub returns-then-not-holds : goal.returns-then-not-holds
unfolding first_no tests
returns-then-not-holds c =
    rw (
      not-false _ c.if-not-self.false,
      not-false _ c.if-not-self-2.false,
      not-false _ c.if-not-self-3.false,
      not-false _ c.if-not-self-4.false,
      not-false _ c.if-not-self-5.false,
      not-false _ c.if-not-self-6.false,
      not-false _ c.if-not-self-7.false,
      not-false _ c.if-not-self-8.false,
      ← c.holds.ensures,
      c.if-not-holds.true,
    )

pub returns : goal.returns
unfolding first_no tests
returns c =
    rw (
      not-false _ c.if-not-self.false,
      not-false _ c.if-not-self-2.false,
      not-false _ c.if-not-self-3.false,
      not-false _ c.if-not-self-4.false,
      not-false _ c.if-not-self-5.false,
      not-false _ c.if-not-self-6.false,
      not-false _ c.if-not-self-7.false,
      not-false _ c.if-not-self-8.false,
      ← c.holds.ensures,
      c.if-not-holds.false,
    )
