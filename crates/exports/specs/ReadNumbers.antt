-- The numbers of a reading into a flat buffer.
use Rattle.std.specs.Prelude.{ℕ, ◌%◌, ◌<◌, ◌≡◌, refl, Bool, true, false, List, ◌∷◌, length, leb, Result, Ok, Err}
use Rattle.std.proofs.Common.{arith, inl, inr}
use Rattle.elements.specs.Refusals.{OneOf}
use Rattle.messages.specs.Calls.{message_of, reading, reading_refusals}
use Rattle.messages.proofs.CallNumbers.{reading-refused}
use Rattle.messages.specs.declared.Reading.{Reading}
use Rattle.bits.specs.PduParseError.{number_of, number-at_most_16, window_too_short}
use Rattle.bits.specs.declared.pdu_parse_error.PduParseErr.{PduParseErr}
use Rattle.exports.specs.Flat.{form_by, result_of, buffer_of, read_result, read_buffer}

-- THE REFUSALS of a reading into a buffer: those of a reading, and that of a buffer too short
abbrev pub buffer_refusals : List PduParseErr
buffer_refusals = window_too_short ∷ reading_refusals

-- A READING INTO A BUFFER IS REFUSED with one of these; nothing is then consumed, and the buffer is kept
pub record ReadRefused (result n : ℕ) (flat flat' : List ℕ) : Type 0 where
  pub refusal : PduParseErr
  pub one_of : OneOf refusal buffer_refusals
  pub number : number_of refusal ≡ n
  pub alone : result ≡ n
  pub kept : flat' ≡ flat

module _ (t how : ℕ) (os : List ℕ) (first end : ℕ) (flat : List ℕ) where
  pub read-refused : {n : ℕ} → read_result (message_of t) (reading t how os first end) flat % 64 ≡ n → 0 < n
      → ReadRefused (read_result (message_of t) (reading t how os first end) flat) n flat (read_buffer (message_of t) (reading t how os first end) flat)
  unfolding read_result read_buffer
  read-refused {n} e h = go r.verdict (leb (length form) (length flat)) (λ k v. (reading-refused how os first end t v).one_of) e
    where
      r : Reading
      r = reading t how os first end

      form : List ℕ
      form = form_by (message_of t) r.skipped r.«record»

      go : (v : Result Unit PduParseErr) (fits : Bool) → ((k : PduParseErr) → v ≡ Err k → OneOf k reading_refusals) → result_of v r.consumed fits % 64 ≡ n
          → ReadRefused (result_of v r.consumed fits) n flat (buffer_of v fits form flat)
      go (Ok z) true l e = absurd (omega arith)
      go (Ok z) false l e = record { refusal = window_too_short; one_of = inl refl; number = omega arith; alone = omega arith; kept = refl }
      go (Err k) fits l e =
          let few = number-at_most_16 k in
          record { refusal = k; one_of = inr (l k refl); number = omega arith; alone = omega arith; kept = refl }
