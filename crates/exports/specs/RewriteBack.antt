-- What a rewriting wrote reads back as the record that it read, from exactly the bits written.
use Rattle.std.specs.Prelude.{ℕ, ◌*◌, ◌≡◌, true, List, Option, None, Some, Result, Ok, Err}
use Rattle.std.proofs.Common.{arith, sym, ap, ◌∙◌}
use Rattle.std.proofs.Math.Path.{refl}
use Rattle.messages.specs.Calls.{message_of, reading_as, reading, written_as, octets_as}
use Rattle.messages.specs.RoundTrip.{Rewritten}
use Rattle.messages.proofs.PlacedCalls.{named_call}
use Rattle.messages.proofs.RoundTrip.{rewritten_back}
use Rattle.messages.specs.declared.Message.{Message}
use Rattle.messages.specs.declared.Reading.{Reading}
use Rattle.messages.specs.declared.Writing.{Writing}
use Rattle.bits.specs.declared.pdu_parse_error.PduParseErr.{PduParseErr}
use Rattle.exports.specs.Flat.{result_of}
use Rattle.exports.specs.FlatLaws.{apart}
use Rattle.exports.specs.Rewrite.{writing_result, result_behind, octets_behind, rewrite_result, rewrite_octets}

module _ (t : ℕ) (os : List ℕ) (first end : ℕ) (out : List ℕ) (out_first out_end n : ℕ) where
  abbrev Back : Option Message → List ℕ → Type 0
  Back o = Rewritten t out out_first out_end (reading_as o 0 os first end).«record» n

  module _ (m : Message) (known : message_of t ≡ Some m) where
    abbrev r : Reading
    r = reading_as (Some m) 0 os first end

    abbrev w : Writing
    w = written_as m out out_first out_end r.«record»

    abbrev written : List ℕ
    written = octets_as m out out_first out_end r.«record»

    by_writing : r.verdict ≡ Ok tt → (v : Result Unit PduParseErr) → w.verdict ≡ v → result_of v w.written true ≡ 64 * n → Back (Some m) written
    by_writing read (Ok z) v e =
        let same : w.written ≡ n = omega (arith, e) in
        let is = named_call t known 0 os first end in
        rw (← same) (rewritten_back m t 0 known os first end out out_first out_end (ap (λ (r : Reading). r.«record») is) refl refl (ap (λ (r : Reading). r.verdict) (sym is) ∙ read) v)
    by_writing read (Err k) v e = absurd (apart n k (sym e))

    by_reading : (v : Result Unit PduParseErr) → r.verdict ≡ v → result_behind v (writing_result w) ≡ 64 * n → Back (Some m) (octets_behind v out written)
    by_reading (Ok z) read e = by_writing read w.verdict refl e
    by_reading (Err k) read e = absurd (apart n k (sym e))

  -- A REWRITING THAT WROTE n BITS
  pub rewriting_back : rewrite_result (message_of t) os first end out out_first out_end ≡ 64 * n
      → Rewritten t out out_first out_end (reading t 0 os first end).«record» n (rewrite_octets (message_of t) os first end out out_first out_end)
  unfolding rewrite_result rewrite_octets reading
  rewriting_back e = go (message_of t) refl e
    where
      go : (o : Option Message) → message_of t ≡ o → rewrite_result o os first end out out_first out_end ≡ 64 * n
          → Back o (rewrite_octets o os first end out out_first out_end)
      go None k e = absurd (omega arith)
      go (Some m) k e = by_reading m k (reading_as (Some m) 0 os first end).verdict refl e
