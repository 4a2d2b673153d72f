-- Laws of rewriting: what a reading that was taken or refused makes of it.
use Rattle.std.specs.Prelude.{ℕ, ◌-◌, ◌*◌, ◌≤◌, ◌≡◌, refl, Bool, true, false, cond, List, length, Option, None, Some, Ok, Err}
use Rattle.std.proofs.Common.{arith}
use Rattle.bits.specs.PduParseError.{number_of, bad_call}
use Rattle.bits.specs.Placed.{at}
use Rattle.bits.specs.declared.bitbuffer.Cursor.{Cursor}
use Rattle.bits.specs.declared.pdu_parse_error.PduParseErr.{PduParseErr}
use Rattle.messages.specs.MessageAnswers.{Kept, message_answer}
use Rattle.messages.specs.declared.Message.{Message}
use Rattle.messages.specs.declared.MessageRead.{MessageRead}
use Rattle.messages.specs.Calls.{read_message, octets_most, good_window, good_call, message_bits, message_asked, no_reading, reading_as, writing_refusal, writing_of, written_as, octets_as}
use Rattle.messages.proofs.PlacedCalls.{call_taken, call_refused, bad_call_lem, good_window_lem}
use Rattle.messages.specs.Questions.{tests, first_no}
use Rattle.messages.proofs.RoundTrip.{passed}
use Rattle.messages.specs.declared.Record.{Record}
use Rattle.messages.specs.declared.Writing.{Writing}
use Rattle.exports.specs.Rewrite.{writing_result, rewrite_result, rewrite_octets}

module _ (m : Option Message) (os : List ℕ) (first end : ℕ) (out : List ℕ) (out_first out_end : ℕ) where
  -- the result and the octets afterwards
  abbrev pub Rewritten : ℕ → List ℕ → Type 0
  Rewritten n out' = (n ≡ rewrite_result m os first end out out_first out_end) × (out' ≡ rewrite_octets m os first end out out_first out_end)

  no_reading_lem : {e : PduParseErr} → no_reading e first ≡ reading_as m 0 os first end → Rewritten (number_of e) out
  unfolding rewrite_result rewrite_octets
  no_reading_lem e = (rw (← e), rw (← e))

  pub rewrite_bad : good_call 0 (length os) first end ≡ false → Rewritten (number_of bad_call) out
  rewrite_bad g = no_reading_lem (bad_call_lem m 0 os first end g)

-- a message, by the verdict of its reader
module _ (m : Message) (os : List ℕ) (first end : ℕ) (out : List ℕ) (out_first out_end : ℕ) {R : Type 0} {own : Record → R} {of : R → Record} (o : Kept m own of)
    (good : good_call 0 (length os) first end ≡ true) {y : MessageRead R} (e : y ≡ message_answer own (at (read_message m false) os (record { at = first; end = end }))) where
  pub rewrite_refused : {k : PduParseErr} → y.verdict ≡ Err k → Rewritten (Some m) os first end out out_first out_end (number_of k) out
  rewrite_refused v = no_reading_lem (Some m) os first end out out_first out_end (call_refused m 0 os first end o good e v)

  pub rewrite_taken : {n : ℕ} {k : Cursor} {w : Writing} {out' : List ℕ} → y.verdict ≡ Ok (n, k)
      → w ≡ written_as m out out_first out_end (of y.«record») → out' ≡ octets_as m out out_first out_end (of y.«record»)
      → Rewritten (Some m) os first end out out_first out_end (writing_result w) out'
  unfolding rewrite_result rewrite_octets
  rewrite_taken v w p = let r = call_taken m 0 os first end o good e v in (rw (← r, w), rw (← r, p))

-- no message
pub rewrite_unknown : (os : List ℕ) (first end : ℕ) (out : List ℕ) (out_first out_end : ℕ) → Rewritten None os first end out out_first out_end (number_of bad_call) out
unfolding rewrite_result rewrite_octets
rewrite_unknown os first end out out_first out_end = (refl, refl)

-- a writing's result, by its verdict
pub written-refused : (w : Writing) {e : PduParseErr} → w.verdict ≡ Err e → number_of e ≡ writing_result w
written-refused w v = rw v

pub written-taken : (w : Writing) {z : Unit} → w.verdict ≡ Ok z → 64 * w.written ≡ writing_result w
written-taken w v = rw v

-- no more bits are written than a window has
pub written-most : (m : Message) (os : List ℕ) (first end : ℕ) (r : Record) → (written_as m os first end r).written ≤ 8 * octets_most
unfolding written_as writing_refusal good_call
written-most m os first end r = go (good_window (length os) first end) refl
  where
    n : ℕ
    n = length (message_bits m r)

    by_refusal : (k : Option PduParseErr) → (k ≡ None → n ≤ 8 * octets_most) → (writing_of k n).written ≤ 8 * octets_most
    by_refusal None h = h refl
    by_refusal (Some e) h = omega arith

    go : (b : Bool) → good_window (length os) first end ≡ b
        → (writing_of (cond b (first_no (tests (message_asked m r) n (end - first))) (Some bad_call)) n).written ≤ 8 * octets_most
    go true g =
        let inside = good_window_lem 0 (length os) first end g in
        by_refusal _ (λ z. let p = (passed (message_asked m r) n (end - first) z).enough in omega arith)
    go false g = omega arith
