-- A message written at a cursor: the questions first, then its bits; and the answer of the writing call.
use Rattle.std.specs.Prelude.{ℕ, ◌-◌, ◌≤◌, List, length, Option, None, Some, Ok, Err}
use Rattle.bits.specs.Bits.{Bits}
use Rattle.bits.specs.Placed.{Placed, placed, halted, left}
use Rattle.bits.specs.Written.{Written, write, unwritten}
use Rattle.bits.specs.declared.pdu_parse_error.PduParseErr.{PduParseErr}
use Rattle.bits.specs.declared.bitbuffer.Cursor.{Cursor}
use Rattle.messages.specs.Questions.{fits, ciphered, attached, formed, alive, saving, type3_only, short, Asked, tests, first_no}
use Rattle.messages.specs.declared.Writing.{Writing}
use Rattle.message_writers.specs.declared.questions.Answers.{Answers}

abbrev pub written_by : Option PduParseErr → Bits → List ℕ → Cursor → Written
written_by None xs os c = write xs os c
written_by (Some e) xs os c = unwritten e os

-- A MESSAGE WRITTEN: the first question that is answered with no refuses it; else its bits stand at the cursor
unfoldable pub write_message : Asked → Bits → List ℕ → Cursor → Written
write_message a xs os c = written_by (first_no (tests a (length xs) (left (length os) c))) xs os c

-- the answers that the code has
abbrev pub as_asked : Answers → Asked
as_asked r fits = r.fits
as_asked r ciphered = r.ciphered
as_asked r attached = r.attached
as_asked r formed = r.formed
as_asked r alive = r.alive
as_asked r saving = r.saving
as_asked r type3_only = r.type3_only
as_asked r short = r.short

-- ## the call

-- the place is not before `first`
abbrev pub Behind : ℕ → Placed Unit → Type 0
Behind first (placed z c) = first ≤ c.at
Behind first (halted n) = Unit

-- the answer of what was written from `first` on
abbrev pub writing_by : ℕ → Placed Unit → Writing
writing_by first (placed z c) = record { verdict = Ok tt; written = c.at - first }
writing_by first (halted n) = record { verdict = Err n; written = 0 }
