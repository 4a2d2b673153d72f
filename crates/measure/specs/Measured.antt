-- One number for an answer: of a field the value, or the refusal's number; of a reading call 64 times the bits consumed and the
-- refusal's number, one of the two being 0.
use Rattle.std.specs.Prelude.{ℕ, ◌+◌, ◌*◌, Result, Ok, Err}
use Rattle.bits.specs.PduParseError.{number_of}
use Rattle.bits.specs.Placed.{Placed, placed, halted}
use Rattle.bits.specs.declared.pdu_parse_error.PduParseErr.{PduParseErr}
use Rattle.messages.specs.declared.Reading.{Reading}

abbrev pub value_or_refusal : Placed ℕ → ℕ
value_or_refusal (placed v c) = v
value_or_refusal (halted e) = number_of e

abbrev pub refusal_of : Result Unit PduParseErr → ℕ
refusal_of (Ok z) = 0
refusal_of (Err e) = number_of e

abbrev pub consumed_and_refusal : Reading → ℕ
consumed_and_refusal r = 64 * r.consumed + refusal_of r.verdict
