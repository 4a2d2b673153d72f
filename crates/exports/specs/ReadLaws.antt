-- A reading call into a flat buffer: what the buffer holds afterwards.
use Rattle.std.specs.Prelude.{ℕ, ◌-◌, ◌*◌, ◌≤◌, min, ◌≡◌, Bool, true, false, List, length, eqb, leb, Option, None, Some, Ok, Err}
use Rattle.std.proofs.Common.{arith, ap}
use Rattle.std.proofs.lemmas.List.Edits.{sets}
use Rattle.bits.specs.PduParseError.{number_of, window_too_short, bad_call}
use Rattle.bits.specs.Reader.{Answer, got, refused}
use Rattle.bits.specs.Placed.{at}
use Rattle.bits.specs.PlacedLaws.{length-window}
use Rattle.bits.specs.declared.bitbuffer.Cursor.{Cursor}
use Rattle.bits.specs.declared.pdu_parse_error.PduParseErr.{PduParseErr}
use Rattle.elements.specs.Table.{Counted}
use Rattle.messages.specs.Calls.{message_of, good_call, window_of, read_message, reading_of, no_reading, reading, accepted, called}
use Rattle.messages.specs.MessageAnswers.{Kept, message_answer}
use Rattle.messages.specs.declared.Message.{Message}
use Rattle.messages.proofs.PlacedCalls.{taken, not_taken, good_call_lem, bad_call_lem, named_call, good_window_lem}
use Rattle.messages.specs.declared.MessageRead.{MessageRead}
use Rattle.messages.specs.declared.Record.{Record}
use Rattle.messages.specs.declared.Reading.{Reading}
use Rattle.exports.specs.Flat.{flat_form, form_by, read_result, read_buffer}

-- the result of a reading, and the buffer afterwards
abbrev Answered : Option Message → Reading → List ℕ → ℕ → List ℕ → Type 0
Answered m x flat r flat' = (r ≡ read_result m x flat) × (flat' ≡ read_buffer m x flat)

-- no more bits are consumed than the window has
consumed-most : (m : Message) (b : Bool) (os : List ℕ) (first end : ℕ) → (called m b os first end).consumed ≤ end - first
consumed-most m b os first end = go (read_message m b (window_of os first end))
  where
    go : (x : Answer (Counted Record)) → (reading_of first (length (window_of os first end)) x).consumed ≤ end - first
    go (got x rest) =
        let l : length (window_of os first end) ≡ min (end - first) (8 * length os - first) = length-window os (record { at = first; end = end }) in
        omega arith
    go (refused n) = omega arith

module _ (m : Option Message) (flat : List ℕ) {x : Reading} where
  refused-answer : {e : PduParseErr} {first : ℕ} → no_reading e first ≡ x → Answered m x flat (number_of e) flat
  unfolding read_result read_buffer
  refused-answer e = (rw (← e), rw (← e))

  module _ (first n : ℕ) (k : Cursor) (own : Record) (e : accepted first n k own ≡ x) where
    short-answer : leb (length (form_by m n own)) (length flat) ≡ false → Answered m x flat (number_of window_too_short) flat
    unfolding read_result read_buffer
    short-answer h = (rw (← e) (rw h), rw (← e) (rw h))

    long-answer : leb (length (form_by m n own)) (length flat) ≡ true → Answered m x flat (64 * (k.at - first)) (sets flat 0 (form_by m n own))
    unfolding read_result read_buffer
    long-answer h = (rw (← e) (rw h), rw (← e) (rw h))

-- ## a message, by its reader's verdict

module _ (m : Message) {R : Type 0} {own : Record → R} {of : R → Record} (o : Kept m own of)
    (b : Bool) (os : List ℕ) (c : Cursor) (flat : List ℕ) {y : MessageRead R} (e : y ≡ message_answer own (at (read_message m b) os c)) where
  abbrev Filled : ℕ → List ℕ → Type 0
  Filled = Answered (Some m) (called m b os c.at c.end) flat

  pub filled-refused : {k : PduParseErr} → y.verdict ≡ Err k → Filled (number_of k) flat
  filled-refused v = refused-answer (Some m) flat (not_taken m o b os c e v)

  -- the test of the buffer's length decides
  pub record Filling (n : ℕ) (k : Cursor) : Type 0 where
    pub on : c.at ≤ k.at
    pub few : c.end ≤ 32768 → k.at - c.at ≤ 32768
    pub short : leb (length (flat_form m n (of y.«record»))) (length flat) ≡ false → Filled (number_of window_too_short) flat
    pub long : leb (length (flat_form m n (of y.«record»))) (length flat) ≡ true → Filled (64 * (k.at - c.at)) (sets flat 0 (flat_form m n (of y.«record»)))

  pub filled-read : {n : ℕ} {k : Cursor} → y.verdict ≡ Ok (n, k) → Filling n k
  filled-read {n} {k} v =
      let t = taken m o b os c e v in
      let used : k.at - c.at ≤ c.end - c.at = rw (ap (λ (r : Reading). r.consumed) t.answer) (consumed-most m b os c.at c.end) in
      record {
        on = t.on;
        few = λ h. omega arith;
        short = short-answer (Some m) flat c.at n k (of y.«record») t.answer;
        long = long-answer (Some m) flat c.at n k (of y.«record») t.answer;
      }

-- ## question 1, and then the message

module _ (t how : ℕ) (os : List ℕ) (first end : ℕ) (flat : List ℕ) where
  abbrev pub Read : ℕ → List ℕ → Type 0
  Read = Answered (message_of t) (reading t how os first end) flat

  pub bad_read : good_call how (length os) first end ≡ false → Read (number_of bad_call) flat
  unfolding reading
  bad_read g = refused-answer (message_of t) flat (bad_call_lem (message_of t) how os first end g)

  pub unknown_read : message_of t ≡ None → Read (number_of bad_call) flat
  unknown_read k = refused-answer (message_of t) flat (named_call t k how os first end)

  -- a good call's answer is the message's
  pub good_read : {m : Message} → message_of t ≡ Some m → good_call how (length os) first end ≡ true
      → (r : ℕ) (flat' : List ℕ) → Answered (Some m) (called m (eqb how 1) os first end) flat r flat' → Read r flat'
  good_read {m} k g r flat' p = rw k (rw (← named_call t k how os first end, ← good_call_lem m how os first end g) p)

-- and its window is short
pub good_read_window : (how n first end : ℕ) → good_call how n first end ≡ true → (first ≤ end) × (end ≤ 32768)
good_read_window how n first end g = let w = good_window_lem how n first end g in (w.0, omega arith)
