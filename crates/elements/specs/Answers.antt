-- What the code's answers say, where a verdict stands beside the value; and the opening of an element.
use Rattle.std.specs.Prelude.{ℕ, Option, Ok, Err}
use Rattle.bits.specs.Reader.{Reader, field}
use Rattle.bits.specs.Placed.{Placed, placed, halted}
use Rattle.elements.specs.Numbers.{type2}
use Rattle.elements.specs.Table.{identifier_width}
use Rattle.elements.specs.Rows.{no_generics}
use Rattle.elements.specs.declared.typed_pdu_fields.Judged.{Judged}
use Rattle.elements.specs.declared.typed_pdu_fields.Slots.{Slots}

-- M-bit, and behind an M-bit of 1 the identifier
abbrev pub opening : Reader (Option ℕ)
opening = type2 (field identifier_width)

-- a verdict and a value: what the value is where there is none
abbrev pub judged : {A : Type 0} → A → Placed A → Judged A
judged absent (placed a c) = record { verdict = Ok c; value = a }
judged absent (halted e) = record { verdict = Err e; value = absent }

abbrev pub slots_answer : Placed Slots → Judged Slots
slots_answer = judged (record { skipped = 0; generics = no_generics })
