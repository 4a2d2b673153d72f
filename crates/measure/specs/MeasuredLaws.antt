-- A reading call's answer as it is measured, by the verdict of the message's reader; 64 times the bits consumed fit a word.
use Rattle.std.specs.Prelude.{ℕ, ◌-◌, ◌*◌, ◌≤◌, ◌<◌, ◌^◌, ◌≡◌, refl, Bool, true, false, cond, List, length, eqb, Some, Ok, Err}
use native.Mathlib.Omega.{arith}
use Rattle.std.proofs.Common.{ap, ◌∙◌}
use Rattle.bits.specs.PduParseError.{bad_call, number_of}
use Rattle.bits.specs.Reader.{Answer, got, refused}
use Rattle.bits.specs.Placed.{at}
use Rattle.bits.specs.declared.bitbuffer.Cursor.{Cursor}
use Rattle.bits.specs.declared.pdu_parse_error.PduParseErr.{PduParseErr}
use Rattle.elements.specs.Table.{Counted}
use Rattle.messages.specs.Calls.{read_message, good_call, window_of, no_reading, reading_of, reading_as, accepted, called}
use Rattle.messages.specs.MessageAnswers.{message_answer, Kept}
use Rattle.messages.specs.declared.Message.{Message}
use Rattle.messages.proofs.PlacedCalls.{taken, call_taken, call_refused, bad_call_lem, place_inside}
use Rattle.messages.specs.declared.MessageRead.{MessageRead}
use Rattle.messages.specs.declared.Record.{Record}
use Rattle.messages.specs.declared.Reading.{Reading}
use Rattle.measure.specs.Measured.{consumed_and_refusal}

module _ (m : Message) (how : ℕ) (os : List ℕ) (first end : ℕ) where
  abbrev answer_of : Reading
  answer_of = reading_as (Some m) how os first end

  consumed-inside : answer_of.consumed ≤ answer_of.place
  consumed-inside = go (good_call how (length os) first end)
    where
      answered : (n : ℕ) (x : Answer (Counted Record)) → (reading_of first n x).consumed ≤ (reading_of first n x).place
      answered n (got x rest) = omega arith
      answered n (refused k) = omega arith

      go : (g : Bool) → (cond g (called m (eqb how 1) os first end) (no_reading bad_call first)).consumed
          ≤ (cond g (called m (eqb how 1) os first end) (no_reading bad_call first)).place
      go true = answered (length (window_of os first end)) (read_message m (eqb how 1) (window_of os first end))
      go false = omega arith

  -- what a good call's reader tells, if it reads up to k
  pub record Measured (k : Cursor) : Type 0 where
    pub on : first ≤ k.at
    pub few : 64 * (k.at - first) < 2 ^ 64
    pub answer : 64 * (k.at - first) ≡ consumed_and_refusal answer_of

  few-consumed : {r : Reading} → r ≡ answer_of → r.verdict ≡ Ok tt → 64 * r.consumed < 2 ^ 64
  few-consumed {r} e v =
      let inside : r.consumed ≤ r.place = rw e consumed-inside in
      let place = place_inside (Some m) how os first end e v in
      omega arith

of_read : (r : Reading) → r.verdict ≡ Ok tt → 64 * r.consumed ≡ consumed_and_refusal r
of_read r v = rw v (omega arith)

of_refused : (e : PduParseErr) (first : ℕ) → number_of e ≡ consumed_and_refusal (no_reading e first)
of_refused e first = omega arith

-- a message whose reader's answer holds a verdict and its own record
module _ (m : Message) (how : ℕ) (os : List ℕ) (first end : ℕ) where
  pub measured_bad : good_call how (length os) first end ≡ false → number_of bad_call ≡ consumed_and_refusal (reading_as (Some m) how os first end)
  measured_bad g = of_refused bad_call first ∙ ap consumed_and_refusal (bad_call_lem (Some m) how os first end g)

  module _ {R : Type 0} {own : Record → R} {of : R → Record} (o : Kept m own of) (good : good_call how (length os) first end ≡ true) {y : MessageRead R}
      (e : y ≡ message_answer own (at (read_message m (eqb how 1)) os (record { at = first; end = end }))) where
    pub measured-refused : {n : PduParseErr} → y.verdict ≡ Err n → number_of n ≡ consumed_and_refusal (reading_as (Some m) how os first end)
    measured-refused {n} v = of_refused n first ∙ ap consumed_and_refusal (call_refused m how os first end o good e v)

    pub measured-read : {n : ℕ} {k : Cursor} → y.verdict ≡ Ok (n, k) → Measured m how os first end k
    measured-read {n} {k} v =
        let r : Reading = accepted first n k (of y.«record») in
        let is : r ≡ reading_as (Some m) how os first end = call_taken m how os first end o good e v in
        record {
          on = (taken m o (eqb how 1) os (record { at = first; end = end }) e v).on;
          few = few-consumed m how os first end is refl;
          answer = of_read r refl ∙ ap consumed_and_refusal is;
        }
