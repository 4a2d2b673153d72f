-- The refusals, and the numbers that document 01 gives them.
use Rattle.std.specs.Prelude.{ℕ, eqb, cond, ◌≡◌, ◌≤◌, refl}
use native.Mathlib.Omega.{arith}
use Rattle.bits.specs.declared.pdu_parse_error.PduParseErr.{PduParseErr}
use Rattle.bits.specs.declared.pdu_parse_error.PduParseErr.TheVariants as E

-- ## reading

-- the message or the reading is unknown, there are too many octets, or the window is not inside them
abbrev pub bad_call : PduParseErr
bad_call = E.BadCall

-- a field, identifier or passed content does not end inside the window
abbrev pub buffer_ended : PduParseErr
buffer_ended = E.BufferEnded

-- the 4-bit type is not the message's own
abbrev pub invalid_pdu_type : PduParseErr
invalid_pdu_type = E.InvalidPduType

-- the reserved bit of the location demand is not 0
abbrev pub invalid_value : PduParseErr
invalid_value = E.InvalidValue

-- a type 4 length is below the 6 bits of its number of entries
abbrev pub type4_underflow : PduParseErr
type4_underflow = E.Type4Underflow

-- a structure or a list does not end where its length said
abbrev pub inconsistent_length : PduParseErr
inconsistent_length = E.InconsistentLength

-- the closing M-bit is not 0
abbrev pub invalid_trailing_mbit_value : PduParseErr
invalid_trailing_mbit_value = E.InvalidTrailingMbitValue

-- ## writing

-- a number is not in its width, or a generic length or a count is too large
abbrev pub value_too_large : PduParseErr
value_too_large = E.ValueTooLarge

-- ciphering parameters without cipher control, or the other way round
abbrev pub ciphering_mismatch : PduParseErr
ciphering_mismatch = E.CipheringMismatch

-- a group has both attachment and detachment, or neither
abbrev pub not_one_attachment : PduParseErr
not_one_attachment = E.NotOneAttachment

-- a group's address has a form that no address type has
abbrev pub address_form_unlisted : PduParseErr
address_form_unlisted = E.AddressFormUnlisted

-- StayAlive with a frame or a multiframe
abbrev pub stay_alive_with_frame : PduParseErr
stay_alive_with_frame = E.StayAliveWithFrame

-- another saving mode without its frame or multiframe
abbrev pub frame_missing : PduParseErr
frame_missing = E.FrameMissing

-- a generic type 4 element, which is not written
abbrev pub type4_not_written : PduParseErr
type4_not_written = E.Type4NotWritten

-- the length of a structure or of a group list does not fit its 11 bits
abbrev pub length_too_large : PduParseErr
length_too_large = E.LengthTooLarge

-- what is to be written does not fit the window
abbrev pub window_too_short : PduParseErr
window_too_short = E.WindowTooShort

-- ## THE NUMBERS

abbrev pub number_of : PduParseErr → ℕ
number_of E.BadCall = 1
number_of E.BufferEnded = 2
number_of E.InvalidPduType = 3
number_of E.InvalidValue = 4
number_of E.Type4Underflow = 5
number_of E.InconsistentLength = 6
number_of E.InvalidTrailingMbitValue = 7
number_of E.ValueTooLarge = 8
number_of E.CipheringMismatch = 9
number_of E.NotOneAttachment = 10
number_of E.AddressFormUnlisted = 11
number_of E.StayAliveWithFrame = 12
number_of E.FrameMissing = 13
number_of E.Type4NotWritten = 14
number_of E.LengthTooLarge = 15
number_of E.WindowTooShort = 16

pub number-at_most_16 : (e : PduParseErr) → number_of e ≤ 16
number-at_most_16 E.BadCall = omega arith
number-at_most_16 E.BufferEnded = omega arith
number-at_most_16 E.InvalidPduType = omega arith
number-at_most_16 E.InvalidValue = omega arith
number-at_most_16 E.Type4Underflow = omega arith
number-at_most_16 E.InconsistentLength = omega arith
number-at_most_16 E.InvalidTrailingMbitValue = omega arith
number-at_most_16 E.ValueTooLarge = omega arith
number-at_most_16 E.CipheringMismatch = omega arith
number-at_most_16 E.NotOneAttachment = omega arith
number-at_most_16 E.AddressFormUnlisted = omega arith
number-at_most_16 E.StayAliveWithFrame = omega arith
number-at_most_16 E.FrameMissing = omega arith
number-at_most_16 E.Type4NotWritten = omega arith
number-at_most_16 E.LengthTooLarge = omega arith
number-at_most_16 E.WindowTooShort = omega arith

-- the refusal that has a number
abbrev pub error_of : ℕ → PduParseErr
error_of n =
    cond (eqb n 1) E.BadCall (
    cond (eqb n 2) E.BufferEnded (
    cond (eqb n 3) E.InvalidPduType (
    cond (eqb n 4) E.InvalidValue (
    cond (eqb n 5) E.Type4Underflow (
    cond (eqb n 6) E.InconsistentLength (
    cond (eqb n 7) E.InvalidTrailingMbitValue (
    cond (eqb n 8) E.ValueTooLarge (
    cond (eqb n 9) E.CipheringMismatch (
    cond (eqb n 10) E.NotOneAttachment (
    cond (eqb n 11) E.AddressFormUnlisted (
    cond (eqb n 12) E.StayAliveWithFrame (
    cond (eqb n 13) E.FrameMissing (
    cond (eqb n 14) E.Type4NotWritten (
    cond (eqb n 15) E.LengthTooLarge E.WindowTooShort))))))))))))))

pub error-number : (e : PduParseErr) → error_of (number_of e) ≡ e
error-number E.BadCall = refl
error-number E.BufferEnded = refl
error-number E.InvalidPduType = refl
error-number E.InvalidValue = refl
error-number E.Type4Underflow = refl
error-number E.InconsistentLength = refl
error-number E.InvalidTrailingMbitValue = refl
error-number E.ValueTooLarge = refl
error-number E.CipheringMismatch = refl
error-number E.NotOneAttachment = refl
error-number E.AddressFormUnlisted = refl
error-number E.StayAliveWithFrame = refl
error-number E.FrameMissing = refl
error-number E.Type4NotWritten = refl
error-number E.LengthTooLarge = refl
error-number E.WindowTooShort = refl
