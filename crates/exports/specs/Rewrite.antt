-- Rewriting (document 01, 'What must change shape'): a strict reading in one window, and its record written to a second; the first
-- refusal met is the answer.
use Rattle.std.specs.Prelude.{ℕ, true, List, Option, Result, Ok, Err}
use Rattle.messages.specs.Calls.{reading_as, writing_as, octets_by}
use Rattle.messages.specs.declared.Message.{Message}
use Rattle.messages.specs.declared.Reading.{Reading}
use Rattle.messages.specs.declared.Writing.{Writing}
use Rattle.bits.specs.PduParseError.{number_of}
use Rattle.bits.specs.declared.pdu_parse_error.PduParseErr.{PduParseErr}
use Rattle.exports.specs.Flat.{result_of}

abbrev pub writing_result : Writing → ℕ
writing_result w = result_of w.verdict w.written true

-- what follows a reading, or its refusal
abbrev pub result_behind : Result Unit PduParseErr → ℕ → ℕ
result_behind (Ok z) n = n
result_behind (Err e) n = number_of e

abbrev pub octets_behind : Result Unit PduParseErr → List ℕ → List ℕ → List ℕ
octets_behind (Ok z) out out' = out'
octets_behind (Err e) out out' = out

-- the message that was asked for, if the number names one; the octets and the window read, the octets and the window written to
module _ (m : Option Message) (os : List ℕ) (first end : ℕ) (out : List ℕ) (out_first out_end : ℕ) where
  abbrev strict : Reading
  strict = reading_as m 0 os first end

  -- THE RESULT of a rewriting, and THE OCTETS written to afterwards
  unfoldable pub rewrite_result : ℕ
  rewrite_result = result_behind strict.verdict (writing_result (writing_as m out out_first out_end strict.«record»))

  unfoldable pub rewrite_octets : List ℕ
  rewrite_octets = octets_behind strict.verdict out (octets_by m out out_first out_end strict.«record»)
