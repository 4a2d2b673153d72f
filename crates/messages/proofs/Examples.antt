-- The messages to try that document 01 marks to be proved, a row for each subtle refusal of writing, and messages that hold a number of its
-- own in each field: one table, and one theorem about its rows, by computation.
use Rattle.std.specs.Prelude.{ℕ, ◌≡◌, refl, false, List, [], ◌∷◌, replicate}
use Rattle.std.specs.Prelude.{None, Some}
use Rattle.bits.specs.Bits.{Bits, number, digits, bits_of}
use Rattle.bits.specs.Reader.{Answer, got, refused, field, pass, times}
use Rattle.bits.specs.Placed.{window}
use Rattle.bits.specs.Written.{splice, octets_of, put_bits}
use Rattle.elements.specs.Table.{look, header, closing, whole, piece, many_of, many, pieces, is_listed, scan}
use Rattle.elements.specs.TableWritten.{element_bits, table_bits}
use Rattle.elements.specs.Groups.{type_of, listed_form, address_of, address_bits, address_fits, uplink_address, uplink, downlink_address, downlink}
use Rattle.elements.specs.Groups.{attachment_info, attachment_bits, attachment_fits, downlink_bits, downlink_fits, downlink_one, downlink_listed}
use Rattle.elements.specs.Groups.{uplink_bits, uplink_fits, uplink_one, uplink_listed}
use Rattle.elements.specs.ClassOfMs.{numbers, numbers_bits, numbers_fit, class_of_ms_element, class_bits, class_fits}
use Rattle.elements.specs.EnergySaving.{energy_saving, saving_fits, saving_bits, alive_has_none, others_have_both}
use Rattle.elements.specs.Generics.{kept, type3, type4, type3_bits, type4_bits, type3_fits, type4_fits}
use Rattle.elements.specs.Lists.{uplinks, downlinks, list, list_bits, list_fits, list_one, list_listed, each, all}
use Rattle.elements.specs.Locations.{demand_body, location_demand, nested, location_demand_fits, location_demand_bits, accept_body, location_accept}
use Rattle.elements.specs.Locations.{location_accept_fits, location_accept_bits, nested_bits}
use Rattle.elements.specs.Kinds.{content, content_bits}
use Rattle.elements.specs.declared.class_of_ms.ClassOfMs.{ClassOfMs}
use Rattle.elements.specs.declared.group_identity_uplink.OptionalUplinks.{OptionalUplinks}
use Rattle.elements.specs.declared.group_identity_downlink.OptionalDownlinks.{OptionalDownlinks}
use Rattle.messages.specs.Format.{message}
use Rattle.messages.specs.Head.{pdu_type, any_present}
use Rattle.bits.specs.PduParseError.{error_of}
use Rattle.messages.specs.Questions.{tests, first_no}
use Rattle.messages.specs.Description.{read_fields, read_options, read_head, fields_bits, options_bits, any_option, head_bits, more, bits}
use Rattle.messages.specs.Description.{fields_asked, options_asked, slots_asked, asked}
use Rattle.messages.specs.Calls.{message_among, message_of, good_window, good_call, reading, writing_refusal, written_as, octets_as, writing, octets_written}
use Rattle.messages.proofs.ExampleRecords.{in64, a_type3, no_type3, a_type4, no_type4, only, version_7, a_saving, no_saving, uplink_with}
use Rattle.messages.proofs.ExampleRecords.{downlink_with, downlink_array, these_uplinks, these_downlinks, no_downlinks, a_location_demand}
use Rattle.messages.proofs.ExampleRecords.{no_location_demand, demand_with, demand_full, demand_other, accept_with, accept_full, attach_detach_with}
use Rattle.messages.proofs.ExampleRecords.{attach_detach_full, empty_record, only_demand, only_accept, only_attach_detach}
use Rattle.elements.specs.declared.typed_pdu_fields.OptionalU64.{OptionalU64}
use Rattle.elements.specs.declared.group_identity_uplink.GroupIdentityUplink.{GroupIdentityUplink}
use Rattle.elements.specs.declared.group_identity_downlink.GroupIdentityDownlink.{GroupIdentityDownlink}
use Rattle.messages.specs.declared.Record.{Record}
use Rattle.messages.specs.declared.Reading.{Reading}
use Rattle.messages.specs.declared.Writing.{Writing}
use Rattle.std.specs.Prelude.{Ok, Err}

pub data Row : Type 0 where
  -- message, reading, octets, first and end bit; the answer
  reads : ℕ → ℕ → List ℕ → ℕ → ℕ → Reading → Row
  -- message, octets before, first and end bit, record; the answer and the octets after
  writes : ℕ → List ℕ → ℕ → ℕ → Record → Writing → List ℕ → Row
  -- octets of a class of MS, read and written
  class_word : List ℕ → ClassOfMs → Row
  -- declared length and octets of a list of groups, from its count on
  uplink_list : ℕ → List ℕ → Answer OptionalUplinks → Row
  downlink_list : ℕ → List ℕ → Answer OptionalDownlinks → Row

-- a writing call's answer and the octets after it
pub data Wrote : Type 0 where
  wrote : Writing → List ℕ → Wrote

-- what octets of a class of MS read as, and its bits
pub data WordRead : Type 0 where
  word_read : Answer ClassOfMs → Bits → WordRead

abbrev pub Holds : Row → Type 0
Holds (reads m how os first end r) = reading m how os first end ≡ r
Holds (writes m os first end r w after) = wrote (writing m os first end r) (octets_written m os first end r) ≡ wrote w after
Holds (class_word os m) = word_read (class_of_ms_element (bits_of os)) (class_bits m) ≡ word_read (got m []) (bits_of os)
Holds (uplink_list n os a) = list uplinks n (bits_of os) ≡ a
Holds (downlink_list n os a) = list downlinks n (bits_of os) ≡ a

infixr 5 ◌also◌
pub data AllHold : List Row → Type 0 where
  and_that_is-all : AllHold []
  ◌also◌ : {r : Row} {rs : List Row} → Holds r → AllHold rs → AllHold (r ∷ rs)

abbrev accepted : ℕ → ℕ → Record → Reading
accepted consumed skipped r = record { verdict = Ok tt; place = consumed; consumed = consumed; skipped = skipped; «record» = r }

abbrev took : ℕ → Writing
took n = record { verdict = Ok tt; written = n }

-- a refusal by its number; `error-number` shows that each number names one
abbrev refusing : ℕ → Writing
refusing n = record { verdict = Err (error_of n); written = 0 }

-- a reading refused with a number
abbrev refuses : ℕ → ℕ → Reading
refuses n first = record { verdict = Err (error_of n); place = first; consumed = 0; skipped = 0; «record» = empty_record }

-- ## octets, worked from the tables of fields and held against the original's own reading and writing

-- 535 bits of `demand_full`
abbrev demand_full_octets : List ℕ
demand_full_octets =
    44 ∷ 212 ∷ 188 ∷ 185 ∷ 107 ∷ 54 ∷ 218 ∷ 43 ∷ 68 ∷ 141 ∷ 21 ∷ 175 ∷ 19 ∷ 87 ∷ 147 ∷ 31 ∷ 111 ∷ 3 ∷ 156 ∷ 97 ∷ 4 ∷ 0 ∷ 0 ∷ 73 ∷ 32 ∷ 0 ∷ 2 ∷ 32 ∷
    0 ∷ 3 ∷ 72 ∷ 192 ∷ 0 ∷ 18 ∷ 136 ∷ 0 ∷ 0 ∷ 185 ∷ 80 ∷ 0 ∷ 6 ∷ 80 ∷ 0 ∷ 7 ∷ 243 ∷ 0 ∷ 0 ∷ 66 ∷ 128 ∷ 22 ∷ 121 ∷ 0 ∷ 249 ∷ 54 ∷ 3 ∷ 42 ∷ 243 ∷ 225 ∷
    0 ∷ 4 ∷ 141 ∷ 21 ∷ 158 ∷ 38 ∷ 175 ∷ 55 ∷ 189 ∷ []

-- 152 bits of `demand_other`, with an odd LA
abbrev demand_other_octets : List ℕ
demand_other_octets =
    35 ∷ 75 ∷ 69 ∷ 114 ∷ 96 ∷ 13 ∷ 80 ∷ 0 ∷ 124 ∷ 35 ∷ 64 ∷ 0 ∷ 0 ∷ 0 ∷ 0 ∷ 0 ∷ 0 ∷ 0 ∷ 212 ∷ []

-- 732 bits of `accept_full` with its generic type 4 elements; the reserved bit of the location accept is 1
abbrev accept_type4_octets : List ℕ
accept_type4_octets =
    93 ∷ 135 ∷ 143 ∷ 22 ∷ 207 ∷ 18 ∷ 214 ∷ 183 ∷ 221 ∷ 251 ∷ 59 ∷ 45 ∷ 200 ∷ 8 ∷ 135 ∷ 52 ∷ 166 ∷ 1 ∷ 161 ∷ 169 ∷ 158 ∷ 247 ∷ 49 ∷ 68 ∷ 30 ∷ 8 ∷ 0 ∷
    0 ∷ 162 ∷ 144 ∷ 0 ∷ 1 ∷ 16 ∷ 0 ∷ 1 ∷ 181 ∷ 24 ∷ 0 ∷ 2 ∷ 9 ∷ 160 ∷ 0 ∷ 2 ∷ 160 ∷ 0 ∷ 3 ∷ 32 ∷ 0 ∷ 3 ∷ 241 ∷ 64 ∷ 0 ∷ 35 ∷ 44 ∷ 0 ∷ 1 ∷ 44 ∷ 0 ∷
    1 ∷ 86 ∷ 112 ∷ 0 ∷ 11 ∷ 156 ∷ 0 ∷ 0 ∷ 100 ∷ 0 ∷ 0 ∷ 108 ∷ 0 ∷ 0 ∷ 114 ∷ 32 ∷ 38 ∷ 69 ∷ 160 ∷ 21 ∷ 132 ∷ 240 ∷ 9 ∷ 147 ∷ 14 ∷ 30 ∷ 128 ∷ 233 ∷
    195 ∷ 254 ∷ 4 ∷ 98 ∷ 46 ∷ 239 ∷ []

-- 664 bits of `accept_full` without them; the reserved bit is 0
abbrev accept_full_octets : List ℕ
accept_full_octets =
    93 ∷ 135 ∷ 143 ∷ 22 ∷ 207 ∷ 18 ∷ 214 ∷ 183 ∷ 221 ∷ 251 ∷ 59 ∷ 45 ∷ 204 ∷ 3 ∷ 67 ∷ 83 ∷ 61 ∷ 110 ∷ 98 ∷ 136 ∷ 60 ∷ 16 ∷ 0 ∷ 1 ∷ 69 ∷ 32 ∷ 0 ∷ 2 ∷
    32 ∷ 0 ∷ 3 ∷ 106 ∷ 48 ∷ 0 ∷ 4 ∷ 19 ∷ 64 ∷ 0 ∷ 5 ∷ 64 ∷ 0 ∷ 6 ∷ 64 ∷ 0 ∷ 7 ∷ 226 ∷ 128 ∷ 0 ∷ 70 ∷ 88 ∷ 0 ∷ 2 ∷ 88 ∷ 0 ∷ 2 ∷ 172 ∷ 224 ∷ 0 ∷ 23 ∷
    56 ∷ 0 ∷ 0 ∷ 200 ∷ 0 ∷ 0 ∷ 216 ∷ 0 ∷ 0 ∷ 228 ∷ 64 ∷ 76 ∷ 139 ∷ 64 ∷ 43 ∷ 9 ∷ 232 ∷ 14 ∷ 156 ∷ 63 ∷ 224 ∷ 70 ∷ 34 ∷ 238 ∷ []

-- 489 bits of `attach_detach_full` with its generic type 4 element
abbrev attach_detach_type4_octets : List ℕ
attach_detach_type4_octets =
    171 ∷ 248 ∷ 5 ∷ 173 ∷ 0 ∷ 30 ∷ 185 ∷ 138 ∷ 32 ∷ 240 ∷ 64 ∷ 0 ∷ 5 ∷ 20 ∷ 128 ∷ 0 ∷ 8 ∷ 128 ∷ 0 ∷ 13 ∷ 168 ∷ 192 ∷ 0 ∷ 16 ∷ 77 ∷ 0 ∷ 0 ∷ 21 ∷ 0 ∷
    0 ∷ 25 ∷ 0 ∷ 0 ∷ 31 ∷ 138 ∷ 0 ∷ 1 ∷ 25 ∷ 96 ∷ 0 ∷ 9 ∷ 96 ∷ 0 ∷ 10 ∷ 179 ∷ 128 ∷ 0 ∷ 92 ∷ 224 ∷ 0 ∷ 3 ∷ 32 ∷ 0 ∷ 3 ∷ 96 ∷ 0 ∷ 3 ∷ 184 ∷ 3 ∷ 130 ∷
    200 ∷ 127 ∷ []

-- 459 bits of it without
abbrev attach_detach_full_octets : List ℕ
attach_detach_full_octets =
    171 ∷ 248 ∷ 5 ∷ 173 ∷ 0 ∷ 30 ∷ 185 ∷ 138 ∷ 32 ∷ 240 ∷ 64 ∷ 0 ∷ 5 ∷ 20 ∷ 128 ∷ 0 ∷ 8 ∷ 128 ∷ 0 ∷ 13 ∷ 168 ∷ 192 ∷ 0 ∷ 16 ∷ 77 ∷ 0 ∷ 0 ∷ 21 ∷ 0 ∷
    0 ∷ 25 ∷ 0 ∷ 0 ∷ 31 ∷ 138 ∷ 0 ∷ 1 ∷ 25 ∷ 96 ∷ 0 ∷ 9 ∷ 96 ∷ 0 ∷ 10 ∷ 179 ∷ 128 ∷ 0 ∷ 92 ∷ 224 ∷ 0 ∷ 3 ∷ 32 ∷ 0 ∷ 3 ∷ 96 ∷ 0 ∷ 3 ∷ 159 ∷ []

-- octets of ones
abbrev ones : ℕ → List ℕ
ones n = replicate n 255

-- ## small records

abbrev nothing : OptionalU64
nothing = in64 None

-- update type 3, a cipher control, ciphering parameters, and an SSI
abbrev update_3 : ℕ → OptionalU64 → OptionalU64 → Record
update_3 control parameters ssi = only_demand (demand_with 3 control parameters ssi no_type3 no_location_demand)

-- update type 3 and nothing else
abbrev plain : Record
plain = update_3 0 nothing nothing

-- the same with a group report response of length 2, 11 in binary
abbrev with_response : Record
with_response = only_demand (demand_with 3 0 nothing nothing (a_type3 2 3) no_location_demand)

-- the same with a location demand of one group
abbrev with_uplink : GroupIdentityUplink → Record
with_uplink g = only_demand (demand_with 3 0 nothing nothing no_type3 (a_location_demand 0 (these_uplinks (g ∷ []))))

-- an attach/detach with a list of one group
abbrev with_downlink : GroupIdentityDownlink → Record
with_downlink g = only_attach_detach (attach_detach_with 0 0 0 no_type3 no_type3 (these_downlinks (g ∷ [])) no_type4)

-- an attach/detach with a generic type 4 element
abbrev with_type4 : ℕ → ℕ → ℕ → Record
with_type4 len elems value = only_attach_detach (attach_detach_with 0 0 0 no_type3 no_type3 no_downlinks (a_type4 len elems value))

-- one whose absent list has a count of 100
abbrev absent_hundred : Record
absent_hundred =
    only_attach_detach (attach_detach_with 0 1 1 no_type3 no_type3 (record { present = false; count = 100; groups = downlink_array [] }) no_type4)

-- ## the table

abbrev pub rows : List Row
rows =
    -- 26 00: update type 3, nothing else; one bit less; and the skipping reading
    reads 2 0 (38 ∷ 0 ∷ []) 0 10 (accepted 10 0 plain)
    ∷ reads 2 0 (38 ∷ 0 ∷ []) 0 9 (refuses 2 0)
    ∷ reads 2 1 (38 ∷ 0 ∷ []) 0 10 (accepted 10 0 plain)
    -- 26 44 00 00 04: the same with SSI 1
    ∷ reads 2 0 (38 ∷ 68 ∷ 0 ∷ 0 ∷ 4 ∷ []) 0 40 (accepted 40 0 (update_3 0 nothing (in64 (Some 1))))
    -- 26 40 reads as 26 00, and is written back in 10 bits
    ∷ reads 2 0 (38 ∷ 64 ∷ []) 0 16 (accepted 16 0 plain)
    ∷ writes 2 (ones 2) 0 16 plain (took 10) (38 ∷ 63 ∷ [])
    -- 26 41 D0 07 40: unlisted 13, length 3
    ∷ reads 2 0 (38 ∷ 65 ∷ 208 ∷ 7 ∷ 64 ∷ []) 0 35 (refuses 7 0)
    ∷ reads 2 1 (38 ∷ 65 ∷ 208 ∷ 7 ∷ 64 ∷ []) 0 35 (accepted 35 1 plain)
    -- 26 41: an element's identifier outside the window, in both readings
    ∷ reads 2 0 (38 ∷ 65 ∷ []) 0 16 (refuses 2 0)
    ∷ reads 2 1 (38 ∷ 65 ∷ []) 0 16 (refuses 2 0)
    -- 36 00 is no demand
    ∷ reads 2 0 (54 ∷ 0 ∷ []) 0 16 (refuses 3 0)
    -- 56: an accept of 8 bits
    ∷ reads 5 0 (86 ∷ []) 0 8
    (accepted 8 0 (only_accept (accept_with 3 no_saving)))
    -- A6: an attach/detach of 8 bits, acknowledgement and mode 1
    ∷ reads 10 0 (166 ∷ []) 0 8
    (accepted 8 0 (only_attach_detach (attach_detach_with 0 1 1 no_type3 no_type3 no_downlinks no_type4)))
    -- class word 0000E0: version 7 only
    ∷ class_word (0 ∷ 0 ∷ 224 ∷ []) version_7
    -- type 4 length 6 with count 0: an empty list, and not an absent one; length 5
    ∷ uplink_list 6 (0 ∷ []) (got (these_uplinks []) (false ∷ false ∷ []))
    ∷ uplink_list 5 (0 ∷ []) (refused (error_of 5))
    ∷ downlink_list 6 (0 ∷ []) (got (these_downlinks []) (false ∷ false ∷ []))
    ∷ downlink_list 5 (0 ∷ []) (refused (error_of 5))
    -- worked by hand: a location demand of length 3 whose reserved bit is 1
    ∷ reads 2 0 (38 ∷ 65 ∷ 48 ∷ 7 ∷ 0 ∷ []) 0 35 (refuses 4 0)
    -- a list of downlink groups of length 5; of length 7 with no entry
    ∷ reads 10 0 (161 ∷ 184 ∷ 5 ∷ 0 ∷ []) 0 31 (refuses 5 0)
    ∷ reads 10 0 (161 ∷ 184 ∷ 7 ∷ 0 ∷ []) 0 32 (refuses 6 0)
    -- the listed identifier 4 twice: 7 in both readings
    ∷ reads 2 0 (38 ∷ 65 ∷ 64 ∷ 1 ∷ 64 ∷ 0 ∷ []) 0 48 (refuses 7 0)
    ∷ reads 2 1 (38 ∷ 65 ∷ 64 ∷ 1 ∷ 64 ∷ 0 ∷ []) 0 48 (refuses 7 0)
    -- unlisted 13 of length 0, listed 4 of length 2, unlisted 1 of length 1, unlisted 13 of length 0; and the cut message
    ∷ reads 2 0 (38 ∷ 65 ∷ 208 ∷ 1 ∷ 64 ∷ 5 ∷ 196 ∷ 0 ∷ 250 ∷ 0 ∷ 0 ∷ []) 0 83 (refuses 7 0)
    ∷ reads 2 1 (38 ∷ 65 ∷ 208 ∷ 1 ∷ 64 ∷ 5 ∷ 196 ∷ 0 ∷ 250 ∷ 0 ∷ 0 ∷ []) 0 83 (accepted 83 3 with_response)
    ∷ reads 2 0 (38 ∷ 65 ∷ 64 ∷ 5 ∷ 128 ∷ []) 0 34 (accepted 34 0 with_response)
    -- QUESTION 1: an unknown message, a third reading, a window past the octets, a first bit past the end
    ∷ reads 3 0 (38 ∷ 0 ∷ []) 0 10 (refuses 1 0)
    ∷ reads 2 2 (38 ∷ 0 ∷ []) 0 10 (refuses 1 0)
    ∷ reads 2 0 (38 ∷ 0 ∷ []) 7 17 (refuses 1 7)
    ∷ reads 2 0 (38 ∷ 0 ∷ []) 11 10 (refuses 1 11)
    ∷ writes 3 (ones 2) 0 16 plain (refusing 1) (ones 2)
    -- a type 4 generic of length 65, or with 64 entries: 8; one that would fit: 14
    ∷ writes 10 (ones 2) 0 16 (with_type4 65 1 0) (refusing 8) (ones 2)
    ∷ writes 10 (ones 2) 0 16 (with_type4 3 64 0) (refusing 8) (ones 2)
    ∷ writes 10 (ones 2) 0 16 (with_type4 3 1 0) (refusing 14) (ones 2)
    -- ciphering parameters too large where there should be none: 8 and not 9; and where they fit: 9
    ∷ writes 2 (ones 2) 0 16 (update_3 0 (in64 (Some 1024)) nothing) (refusing 8) (ones 2)
    ∷ writes 2 (ones 2) 0 16 (update_3 0 (in64 (Some 1023)) nothing) (refusing 9) (ones 2)
    ∷ writes 2 (ones 2) 0 16 (update_3 1 nothing nothing) (refusing 9) (ones 2)
    -- an absent list's count is not looked at
    ∷ writes 10 (0 ∷ 255 ∷ []) 0 16 absent_hundred (took 8) (166 ∷ 255 ∷ [])
    -- a window exactly long enough at bit 3, and one bit short
    ∷ writes 2 (ones 2) 3 13 plain (took 10) (228 ∷ 199 ∷ [])
    ∷ writes 2 (ones 2) 3 12 plain (refusing 16) (ones 2)
    -- and read from bit 3 on: the place is 13, the bits consumed are 10
    ∷ reads 2 0 (228 ∷ 199 ∷ []) 3 13 (record { verdict = Ok tt; place = 13; consumed = 10; skipped = 0; «record» = plain })
    -- A NUMBER OF ITS OWN IN EACH FIELD, so that no two fields of one width can change places, read and written. The one-bit fields: each two
    -- of a head differ in one of the records; here append, control and mode are 0, 1, 1 and report, acknowledgement and mode 1, 0, 1
    ∷ reads 2 0 demand_full_octets 0 535 (accepted 535 0 (only_demand demand_full))
    ∷ writes 2 (ones 67) 0 535 (only_demand demand_full) (took 535) demand_full_octets
    ∷ reads 5 0 accept_full_octets 0 664 (accepted 664 0 (only_accept (accept_full no_type4 no_type4)))
    ∷ writes 5 (ones 83) 0 664 (only_accept (accept_full no_type4 no_type4)) (took 664) accept_full_octets
    ∷ reads 10 0 attach_detach_full_octets 0 459 (accepted 459 0 (only_attach_detach (attach_detach_full no_type4)))
    ∷ writes 10 (ones 58) 0 459 (only_attach_detach (attach_detach_full no_type4)) (took 459) attach_detach_full_octets
    -- append, control and mode 1, 0, 1; an odd LA; a structure with no list; generic elements of 0 and of 70 bits
    ∷ reads 2 0 demand_other_octets 0 152 (accepted 152 0 (only_demand demand_other))
    -- generic type 4 elements are read, and not written; the accept's reserved bit is 1
    ∷ reads 5 0 accept_type4_octets 0 732 (accepted 732 0 (only_accept (accept_full (a_type4 11 3 1234) (a_type4 13 9 4321))))
    ∷ writes 5 (ones 92) 0 732 (only_accept (accept_full (a_type4 11 3 1234) (a_type4 13 9 4321))) (refusing 14) (ones 92)
    ∷ reads 10 0 attach_detach_type4_octets 0 489 (accepted 489 0 (only_attach_detach (attach_detach_full (a_type4 8 2 200))))
    ∷ writes 10 (ones 62) 0 489 (only_attach_detach (attach_detach_full (a_type4 8 2 200))) (refusing 14) (ones 62)
    -- StayAlive: its frame 19 and multiframe 44 are passed, and written 0
    ∷ reads 5 0 (87 ∷ 17 ∷ 59 ∷ 15 ∷ []) 0 28 (accepted 28 0 (only_accept (accept_with 3 (a_saving 0 None None))))
    ∷ writes 5 (ones 4) 0 28 (only_accept (accept_with 3 (a_saving 0 None None))) (took 28) (87 ∷ 16 ∷ 0 ∷ 15 ∷ [])
    -- an uplink group of address type 3 has no address, and is not written
    ∷ reads 2 0 (38 ∷ 65 ∷ 48 ∷ 64 ∷ 112 ∷ 3 ∷ 1 ∷ 92 ∷ []) 0 64 (accepted 64 0 (with_uplink (uplink_with (Some 5) None None None None)))
    ∷ writes 2 (ones 8) 0 64 (with_uplink (uplink_with (Some 5) None None None None)) (refusing 11) (ones 8)
    -- an uplink VGSSI with an extension; a group both attached and detached, and neither
    ∷ writes 2 (ones 16) 0 128 (with_uplink (uplink_with (Some 5) None None (Some 1) (Some 2))) (refusing 11) (ones 16)
    ∷ writes 2 (ones 16) 0 128 (with_uplink (uplink_with (Some 5) (Some 1) (Some 1) None None)) (refusing 10) (ones 16)
    ∷ writes 10 (ones 16) 0 128 (with_downlink (downlink_with None None (Some 1) None None)) (refusing 10) (ones 16)
    -- StayAlive with a frame; another mode without its multiframe
    ∷ writes 5 (ones 4) 0 28 (only_accept (accept_with 3 (a_saving 0 (Some 19) None))) (refusing 12) (ones 4)
    ∷ writes 5 (ones 4) 0 28 (only_accept (accept_with 3 (a_saving 1 (Some 19) None))) (refusing 13) (ones 4)
    -- class of MS: each bit alone
    ∷ class_word (128 ∷ 0 ∷ 0 ∷ []) (only 0)
    ∷ class_word (64 ∷ 0 ∷ 0 ∷ []) (only 1)
    ∷ class_word (32 ∷ 0 ∷ 0 ∷ []) (only 2)
    ∷ class_word (16 ∷ 0 ∷ 0 ∷ []) (only 3)
    ∷ class_word (8 ∷ 0 ∷ 0 ∷ []) (only 4)
    ∷ class_word (4 ∷ 0 ∷ 0 ∷ []) (only 5)
    ∷ class_word (2 ∷ 0 ∷ 0 ∷ []) (only 6)
    ∷ class_word (1 ∷ 0 ∷ 0 ∷ []) (only 7)
    ∷ class_word (0 ∷ 128 ∷ 0 ∷ []) (only 8)
    ∷ class_word (0 ∷ 64 ∷ 0 ∷ []) (only 9)
    ∷ class_word (0 ∷ 32 ∷ 0 ∷ []) (only 10)
    ∷ class_word (0 ∷ 16 ∷ 0 ∷ []) (only 11)
    ∷ class_word (0 ∷ 8 ∷ 0 ∷ []) (only 12)
    ∷ class_word (0 ∷ 4 ∷ 0 ∷ []) (only 13)
    ∷ class_word (0 ∷ 2 ∷ 0 ∷ []) (only 14)
    ∷ class_word (0 ∷ 1 ∷ 0 ∷ []) (only 15)
    ∷ class_word (0 ∷ 0 ∷ 128 ∷ []) (only 16)
    ∷ class_word (0 ∷ 0 ∷ 64 ∷ []) (only 17)
    ∷ class_word (0 ∷ 0 ∷ 32 ∷ []) (only 18)
    ∷ class_word (0 ∷ 0 ∷ 16 ∷ []) (only 19)
    ∷ class_word (0 ∷ 0 ∷ 8 ∷ []) (only 20)
    ∷ class_word (0 ∷ 0 ∷ 4 ∷ []) (only 21)
    ∷ class_word (0 ∷ 0 ∷ 2 ∷ []) (only 22)
    ∷ class_word (0 ∷ 0 ∷ 1 ∷ []) (only 23)
    ∷ []

-- EACH ROW HOLDS
pub rows_hold : AllHold rows
unfolding numbers_bits energy_saving accept_body location_accept location_accept_bits location_accept_fits downlink_bits downlink_fits
    downlink_one downlink_listed attachment_bits attachment_fits number digits bits_of field pass times window splice octets_of put_bits look
    header closing whole piece many_of many pieces demand_body location_demand nested downlink downlink_address attachment_info is_listed scan
    element_bits table_bits type_of listed_form address_of address_bits address_fits uplink_address uplink uplink_bits uplink_fits uplink_one
    uplink_listed numbers numbers_fit class_of_ms_element class_bits class_fits saving_fits saving_bits alive_has_none others_have_both kept
    type3 type4 type3_bits type4_bits type3_fits type4_fits list list_bits list_fits list_one list_listed each all location_demand_fits
    location_demand_bits nested_bits content content_bits message pdu_type any_present tests first_no read_fields read_options read_head
    fields_bits options_bits any_option head_bits more bits fields_asked options_asked slots_asked asked message_among message_of good_window
    good_call reading writing_refusal written_as octets_as writing octets_written
rows_hold =
    refl also refl also refl also refl also refl also refl also refl also refl also refl also refl also refl also refl also
    refl also refl also refl also refl also refl also refl also refl also refl also refl also refl also refl also refl also
    refl also refl also refl also refl also refl also refl also refl also refl also refl also refl also refl also refl also
    refl also refl also refl also refl also refl also refl also refl also refl also refl also refl also refl also refl also
    refl also refl also refl also refl also refl also refl also refl also refl also refl also refl also refl also refl also
    refl also refl also refl also refl also refl also refl also refl also refl also refl also refl also refl also refl also
    refl also refl also refl also refl also refl also refl also refl also refl also refl also refl also refl also refl also
    refl also and_that_is-all
