-- The numbers of a rewriting: those of its reading, and those of its writing.
use Rattle.std.specs.Prelude.{ℕ, ◌%◌, ◌<◌, ◌≡◌, ◌⊎◌, true, List, Result, Ok, Err}
use Rattle.std.proofs.Common.{arith, inl, inr}
use Rattle.std.proofs.Math.Path.{refl}
use Rattle.elements.specs.Refusals.{OneOf}
use Rattle.messages.specs.Calls.{message_of, reading, writing, octets_written, reading_refusals, writing_refusals}
use Rattle.messages.proofs.CallNumbers.{reading-refused, writing-refused}
use Rattle.messages.specs.declared.Reading.{Reading}
use Rattle.messages.specs.declared.Writing.{Writing}
use Rattle.bits.specs.PduParseError.{number_of, number-at_most_16}
use Rattle.bits.specs.declared.pdu_parse_error.PduParseErr.{PduParseErr}
use Rattle.exports.specs.Flat.{result_of}
use Rattle.exports.specs.Rewrite.{writing_result, result_behind, octets_behind, rewrite_result, rewrite_octets}

-- A REWRITING IS REFUSED with a refusal of a reading or of a writing; nothing is then written, and every octet is kept
pub record RewritingRefused (result n : ℕ) (out out' : List ℕ) : Type 0 where
  pub refusal : PduParseErr
  pub one_of : OneOf refusal reading_refusals ⊎ OneOf refusal writing_refusals
  pub number : number_of refusal ≡ n
  pub alone : result ≡ n
  pub kept : out' ≡ out

module _ (t : ℕ) (os : List ℕ) (first end : ℕ) (out : List ℕ) (out_first out_end : ℕ) where
  pub rewriting_refused : {n : ℕ} → rewrite_result (message_of t) os first end out out_first out_end % 64 ≡ n → 0 < n
      → RewritingRefused (rewrite_result (message_of t) os first end out out_first out_end) n out (rewrite_octets (message_of t) os first end out out_first out_end)
  unfolding rewrite_result rewrite_octets reading writing octets_written
  rewriting_refused {n} e h = go r.verdict refl e
    where
      r : Reading
      r = reading t 0 os first end

      w : Writing
      w = writing t out out_first out_end r.«record»

      written : List ℕ
      written = octets_written t out out_first out_end r.«record»

      by-writing : (v : Result Unit PduParseErr) → w.verdict ≡ v → result_of v w.written true % 64 ≡ n → RewritingRefused (result_of v w.written true) n out written
      by-writing (Ok z) p e = absurd (omega arith)
      by-writing (Err k) p e =
          let q = writing-refused out out_first out_end r.«record» t p in
          let few = number-at_most_16 k in
          record { refusal = k; one_of = inr q.one_of; number = omega arith; alone = omega arith; kept = q.kept }

      go : (v : Result Unit PduParseErr) → r.verdict ≡ v → result_behind v (writing_result w) % 64 ≡ n
          → RewritingRefused (result_behind v (writing_result w)) n out (octets_behind v out written)
      go (Ok z) p e = by-writing w.verdict refl e
      go (Err k) p e =
          let q = reading-refused 0 os first end t p in
          let few = number-at_most_16 k in
          record { refusal = k; one_of = inl q.one_of; number = omega arith; alone = omega arith; kept = refl }
