-- The refusals of a message's reader.
use Rattle.std.specs.Prelude.{◌≡◌, ◌⊎◌, List, [], ◌∷◌}
use Rattle.bits.specs.PduParseError.{buffer_ended, invalid_pdu_type, invalid_value, type4_underflow, inconsistent_length, invalid_trailing_mbit_value}
use Rattle.bits.specs.declared.pdu_parse_error.PduParseErr.{PduParseErr}

-- THE LIST: 2 to 7
abbrev pub message_refusals : List PduParseErr
message_refusals = buffer_ended ∷ invalid_pdu_type ∷ invalid_value ∷ type4_underflow ∷ inconsistent_length ∷ invalid_trailing_mbit_value ∷ []

-- e is one of a list
abbrev pub OneOf : PduParseErr → List PduParseErr → Type 0
OneOf e [] = ⊥
OneOf e (x ∷ xs) = (e ≡ x) ⊎ OneOf e xs
