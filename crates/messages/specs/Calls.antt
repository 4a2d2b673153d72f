-- A reading call and a writing call over octets and a window (document 01, 'A reading call', 'A writing call').
use Rattle.std.specs.Prelude.{ℕ, ◌+◌, ◌-◌, ◌*◌, ◌/◌, Bool, cond, ◌&&◌, List, [], ◌∷◌, length, drop, eqb, leb}
use Rattle.std.specs.Prelude.{Option, None, Some, Result, Ok, Err}
use Rattle.bits.specs.PduParseError.{bad_call}
use Rattle.bits.specs.Bits.{Bits}
use Rattle.bits.specs.Reader.{Answer, got, refused, Reader}
use Rattle.bits.specs.Placed.{window}
use Rattle.bits.specs.Written.{put_bits}
use Rattle.elements.specs.Table.{Counted, is_listed}
use Rattle.elements.specs.Kinds.{Element, identifier_of, content}
use Rattle.elements.specs.declared.typed_pdu_fields.Row.{Row}
use Rattle.messages.specs.Format.{Format, message, Walked, walk_message}
use Rattle.elements.specs.Refusals.{message_refusals}
use Rattle.messages.specs.Questions.{Asked, tests, first_no, question_refusals}
use Rattle.messages.specs.Description.{Description, Values, no_values, read_head, slots_in, layout, bits, asked, normal, Same, Tie, made}
use Rattle.messages.specs.Demand.{demand, demand_tie}
use Rattle.messages.specs.Accept.{accept, accept_tie}
use Rattle.messages.specs.AttachDetach.{attach_detach, attach_detach_tie}
use Rattle.messages.specs.declared.Headed.{Headed}
use Rattle.messages.specs.declared.u_location_update_demand.ULocationUpdateDemand.{ULocationUpdateDemand}
use Rattle.messages.specs.declared.d_location_update_accept.DLocationUpdateAccept.{DLocationUpdateAccept}
use Rattle.messages.specs.declared.d_attach_detach_group_identity.DAttachDetachGroupIdentity.{DAttachDetachGroupIdentity}
use Rattle.bits.specs.declared.pdu_parse_error.PduParseErr.{PduParseErr}
use Rattle.bits.specs.declared.bitbuffer.Cursor.{Cursor}
use Rattle.messages.specs.declared.Record.{Record}
use Rattle.messages.specs.declared.Message.{Message}
use Rattle.messages.specs.declared.Message.TheVariants as M
use Rattle.messages.specs.declared.Reading.{Reading}
use Rattle.messages.specs.declared.Writing.{Writing}

-- ## the messages that can be asked for

abbrev pub description_of : Message → Description
description_of M.Demand = demand
description_of M.Accept = accept
description_of M.AttachDetach = attach_detach

abbrev pub all_messages : List Message
all_messages = M.Demand ∷ M.Accept ∷ M.AttachDetach ∷ []

abbrev pub type_of : Message → ℕ
type_of m = (description_of m).type

unfoldable pub message_among : List Message → ℕ → Option Message
message_among [] n = None
message_among (m ∷ ms) n = cond (eqb n (type_of m)) (Some m) (message_among ms n)

-- the message of a type number, if the number is known
unfoldable pub message_of : ℕ → Option Message
message_of = message_among all_messages

-- ## records: the message's own, and that of a call

abbrev pub Own : Message → Type 0
Own M.Demand = ULocationUpdateDemand
Own M.Accept = DLocationUpdateAccept
Own M.AttachDetach = DAttachDetachGroupIdentity

abbrev pub tie_of : (m : Message) → Tie (description_of m) (Own m)
tie_of M.Demand = demand_tie
tie_of M.Accept = accept_tie
tie_of M.AttachDetach = attach_detach_tie

-- all absent and zero
abbrev pub no_own : (m : Message) → Own m
no_own m = made (tie_of m) (no_values (description_of m))

abbrev pub no_record : Record
no_record = record { demand = no_own M.Demand; accept = no_own M.Accept; attach_detach = no_own M.AttachDetach }

-- a message's own record alone in that of a call
abbrev pub alone : (m : Message) → Own m → Record
alone M.Demand d = record { demand = d; accept = no_own M.Accept; attach_detach = no_own M.AttachDetach }
alone M.Accept d = record { demand = no_own M.Demand; accept = d; attach_detach = no_own M.AttachDetach }
alone M.AttachDetach d = record { demand = no_own M.Demand; accept = no_own M.Accept; attach_detach = d }

-- and taken out of it
abbrev pub own : (m : Message) → Record → Own m
own M.Demand r = r.demand
own M.Accept r = r.accept
own M.AttachDetach r = r.attach_detach

-- what a call's record stores for a message, and the other way
abbrev pub values_of : (m : Message) → Record → Values (description_of m)
values_of m r = (tie_of m).values (own m r)

abbrev pub record_of : (m : Message) → Values (description_of m) → Record
record_of m v = alone m (made (tie_of m) v)

-- ## reading

-- a message's readings, by its description; the record is held as `hold` says
abbrev pub format_by : (d : Description) {R S : Type 0} → Tie d R → (R → S) → Format Row Element S
format_by d t hold = record {
  Head = Headed t.H;
  head = read_head d t.options t.head;
  more = λ h. eqb h.obit 1;
  layout = layout d;
  table = d.table;
  finish = λ h es. hold (t.finish h.head (slots_in d.table es));
}

abbrev pub format_of : Message → Format Row Element Record
format_of m = format_by (description_of m) (tie_of m) (alone m)

-- THE READER of a message, skipping if the test holds, else strict
abbrev pub read_message : Message → Bool → Reader (Counted Record)
read_message m = message identifier_of content (format_of m)

-- THE WALK over a message and the cut
abbrev pub walk_over : Message → Bits → Walked
walk_over m = walk_message (is_listed identifier_of (description_of m).table) (layout (description_of m))

-- the octets are few enough and the window lies inside them
abbrev pub octets_most : ℕ
octets_most = 4096

unfoldable pub good_window : ℕ → ℕ → ℕ → Bool
good_window n first end = leb n octets_most && (leb first end && leb end (8 * n))

-- and reading 0 is the strict one, 1 the skipping one
unfoldable pub good_call : ℕ → ℕ → ℕ → ℕ → Bool
good_call how n first end = leb how 1 && good_window n first end

abbrev pub window_of : List ℕ → ℕ → ℕ → Bits
window_of os first end = window os (record { at = first; end = end })

abbrev pub no_reading : PduParseErr → ℕ → Reading
no_reading e first = record { verdict = Err e; place = first; consumed = 0; skipped = 0; «record» = no_record }

abbrev pub reading_of : ℕ → ℕ → Answer (Counted Record) → Reading
reading_of first n (got x rest) =
    record { verdict = Ok tt; place = first + (n - length rest); consumed = n - length rest; skipped = x.skipped; «record» = x.value }
reading_of first n (refused k) = no_reading k first

-- a call that passed question 1
abbrev pub called : Message → Bool → List ℕ → ℕ → ℕ → Reading
called m skipping os first end = reading_of first (length (window_of os first end)) (read_message m skipping (window_of os first end))

-- A READING CALL; question 1 asks for a known number, reading and window
abbrev pub reading_as : Option Message → ℕ → List ℕ → ℕ → ℕ → Reading
reading_as None how os first end = no_reading bad_call first
reading_as (Some m) how os first end = cond (good_call how (length os) first end) (called m (eqb how 1) os first end) (no_reading bad_call first)

unfoldable pub reading : ℕ → ℕ → List ℕ → ℕ → ℕ → Reading
reading n = reading_as (message_of n)

-- the answer with a record that was read from `first` up to a cursor
abbrev pub accepted : ℕ → ℕ → Cursor → Record → Reading
accepted first n k r = record { verdict = Ok tt; place = k.at; consumed = k.at - first; skipped = n; «record» = r }

-- ITS COMPANION: the octets after the last one consumed from; all of them with a refusal
abbrev pub behind_of : Result Unit PduParseErr → ℕ → List ℕ → List ℕ
behind_of (Ok z) place os = drop ((place + 7) / 8) os
behind_of (Err e) place os = os

abbrev pub behind : Reading → List ℕ → List ℕ
behind r os = behind_of r.verdict r.place os

-- ## writing

abbrev pub message_bits : Message → Record → Bits
message_bits m r = bits (description_of m) (values_of m r)

abbrev pub message_asked : Message → Record → Asked
message_asked m r = asked (description_of m) (values_of m r)

abbrev pub message_normal : Message → Record → Record
message_normal m r = record_of m (normal (description_of m) (values_of m r))

-- what is present in the message's own record is equal
abbrev pub SameMessage : Message → Record → Record → Type 0
SameMessage m r s = Same (description_of m) (values_of m r) (values_of m s)

-- the first question that is answered with no, if there is one
unfoldable pub writing_refusal : Message → ℕ → ℕ → ℕ → Record → Option PduParseErr
writing_refusal m n first end r =
    cond (good_window n first end) (first_no (tests (message_asked m r) (length (message_bits m r)) (end - first))) (Some bad_call)

abbrev pub writing_of : Option PduParseErr → ℕ → Writing
writing_of None n = record { verdict = Ok tt; written = n }
writing_of (Some e) n = record { verdict = Err e; written = 0 }

abbrev pub octets_after : Option PduParseErr → List ℕ → List ℕ → List ℕ
octets_after None os os' = os'
octets_after (Some e) os os' = os

-- a call for a known message: its answer, and the octets afterwards
unfoldable pub written_as : Message → List ℕ → ℕ → ℕ → Record → Writing
written_as m os first end r = writing_of (writing_refusal m (length os) first end r) (length (message_bits m r))

unfoldable pub octets_as : Message → List ℕ → ℕ → ℕ → Record → List ℕ
octets_as m os first end r = octets_after (writing_refusal m (length os) first end r) os (put_bits os first (message_bits m r))

-- A WRITING CALL: its answer, and the octets afterwards
abbrev pub writing_as : Option Message → List ℕ → ℕ → ℕ → Record → Writing
writing_as None os first end r = writing_of (Some bad_call) 0
writing_as (Some m) os first end r = written_as m os first end r

abbrev pub octets_by : Option Message → List ℕ → ℕ → ℕ → Record → List ℕ
octets_by None os first end r = os
octets_by (Some m) os first end r = octets_as m os first end r

unfoldable pub writing : ℕ → List ℕ → ℕ → ℕ → Record → Writing
writing n = writing_as (message_of n)

unfoldable pub octets_written : ℕ → List ℕ → ℕ → ℕ → Record → List ℕ
octets_written n = octets_by (message_of n)

-- ## THE REFUSALS that each call can answer

abbrev pub reading_refusals : List PduParseErr
reading_refusals = bad_call ∷ message_refusals

abbrev pub writing_refusals : List PduParseErr
writing_refusals = bad_call ∷ question_refusals
