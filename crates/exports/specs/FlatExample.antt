-- A flat form by hand, from document 01's text: the demand 26 00 in 10 bits, update type 3 and nothing else.
use Rattle.std.specs.Prelude.{ℕ, ◌≡◌, refl, List, [], ◌∷◌, ◌++◌, length, replicate, Some}
use Rattle.bits.specs.Bits.{number, digits, bits_of}
use Rattle.bits.specs.Reader.{field}
use Rattle.bits.specs.Placed.{window}
use Rattle.elements.specs.Lists.{each}
use Rattle.messages.specs.Head.{pdu_type}
use Rattle.messages.specs.Format.{message}
use Rattle.messages.specs.Description.{read_fields, read_options, read_head}
use Rattle.messages.specs.Calls.{message_among, message_of, good_window, good_call, reading}
use Rattle.messages.specs.declared.Message.TheVariants as M
use Rattle.messages.specs.declared.Reading.{Reading}
use Rattle.exports.specs.Flat.{flat_demand, read_result, read_buffer}

-- each line one field that is present: its presence, 7 high octets, the low one
abbrev octets : List ℕ
octets =
    -- count skipped 0
    1 ∷ replicate 7 0 ++ (0
    -- location update type 3
    ∷ 1 ∷ replicate 7 0 ++ (3
    -- request to append LA 0
    ∷ 1 ∷ replicate 7 0 ++ (0
    -- cipher control 0
    ∷ 1 ∷ replicate 7 0 ++ (0
    -- absent: ciphering parameters 9, class of MS 1 + 22 × 9, four fields 4 × 9, location demand 1 + 9 + 9, four type 3 elements 4 × 18
    ∷ replicate 335 0))))

abbrev answer : Reading
answer = reading 2 0 (38 ∷ 0 ∷ []) 0 10

-- a buffer's result, and what it holds afterwards
abbrev Fills : List ℕ → ℕ → List ℕ → Type 0
Fills flat r flat' = (read_result (Some M.Demand) answer flat ≡ r) × (read_buffer (Some M.Demand) answer flat ≡ flat')

-- 640 is 64 × 10 bits, and two octets past the form are kept; a buffer one octet too short is kept
pub flat_example : (length octets ≡ 371) × Fills (replicate 373 255) 640 (octets ++ 255 ∷ 255 ∷ []) × Fills (replicate 370 255) 16 (replicate 370 255)
unfolding number digits bits_of field each window pdu_type message read_fields read_options read_head message_among message_of good_window good_call reading flat_demand read_result read_buffer
flat_example = (refl, (refl, refl), (refl, refl))
