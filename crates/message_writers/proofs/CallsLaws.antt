-- A message written at the front of a window, and the answer of the writing call.
use Prim.Native.Nat.{ℕ, ◌+◌, ◌-◌}
use Rattle.std.proofs.Common.{arith, ◌∙◌}
use Rattle.std.specs.Prelude.{◌≡◌, true, false, List, length}
use Rattle.std.proofs.Math.Path.{refl}
use Rattle.bits.specs.PduParseError.{bad_call}
use Rattle.bits.specs.Bits.{Bits}
use Rattle.bits.specs.Placed.{placed, halted, left}
use Rattle.bits.specs.Written.{Written, put_bits}
use Rattle.bits.specs.WrittenLaws.{write-there}
use Rattle.bits.specs.declared.bitbuffer.Cursor.{Cursor}
use Rattle.messages.specs.Questions.{Asked, tests, first_no}
use Rattle.messages.specs.Calls.{message_of, good_window, good_call, message_bits, message_asked, writing_refusal, writing_of, written_as, octets_as, writing, octets_written}
use Rattle.messages.proofs.PlacedCalls.{good_window_lem}
use Rattle.messages.proofs.RoundTrip.{passed}
use Rattle.messages.specs.declared.Message.{Message}
use Rattle.messages.specs.declared.Record.{Record}
use Rattle.std.specs.Prelude.{Option, None, Some}
use Rattle.bits.specs.declared.pdu_parse_error.PduParseErr.{PduParseErr}
use Rattle.message_writers.specs.Writes.{written_by, write_message, Behind, writing_by}

module _ (m : Message) (os : List ℕ) (first end : ℕ) (r : Record) where
  abbrev asked : Asked
  asked = message_asked m r

  abbrev bits : Bits
  bits = message_bits m r

  abbrev window : Cursor
  window = record { at = first; end = end }

  abbrev refusal_number : Option PduParseErr
  refusal_number = writing_refusal m (length os) first end r

  -- what a message's writer gives is the call's answer, and its octets
  pub record Call (v : Written) : Type 0 where
    pub behind : Behind first v.answer
    pub answer : writing_by first v.answer ≡ written_as m os first end r
    pub octets : v.octets ≡ octets_as m os first end r

  call_taken : refusal_number ≡ None → Call (record { octets = put_bits os first bits; answer = placed tt (record { at = first + length bits; end = end }) })
  unfolding written_as octets_as
  call_taken z =
      let n : first + length bits - first ≡ length bits = omega arith in
      record { behind = omega arith; answer = rw (z, n); octets = rw z }

  call_refused : (k : PduParseErr) → refusal_number ≡ Some k → Call (record { octets = os; answer = halted k })
  unfolding written_as octets_as
  call_refused k z = record { behind = tt; answer = rw z; octets = rw z }

  number : good_window (length os) first end ≡ true → refusal_number ≡ first_no (tests asked (length bits) (left (length os) window))
  unfolding writing_refusal good_call
  number g =
      let inside = good_window_lem 0 (length os) first end g in
      let room : left (length os) window ≡ end - first = omega arith in
      rw (room, g)

  call_made : good_window (length os) first end ≡ true → Call (write_message asked bits os window)
  unfolding write_message
  call_made g = go (first_no (tests asked (length bits) (left (length os) window))) refl
    where
      go : (n : Option PduParseErr) → first_no (tests asked (length bits) (left (length os) window)) ≡ n → Call (written_by n bits os window)
      go None q = rw (write-there bits os window (passed asked (length bits) (left (length os) window) q).enough) (call_taken (number g ∙ q))
      go (Some k) q = call_refused k (number g ∙ q)

  -- A GOOD CALL
  pub good_write : good_window (length os) first end ≡ true → {v : Written} → v ≡ write_message asked bits os window → Call v
  good_write g w = rw w (call_made g)

  pub bad_write : good_window (length os) first end ≡ false → (writing_of (Some bad_call) 0 ≡ written_as m os first end r) × (os ≡ octets_as m os first end r)
  unfolding written_as octets_as writing_refusal
  bad_write g = (rw g, rw g)

module _ (t : ℕ) (os : List ℕ) (first end : ℕ) (r : Record) where
  -- by the message that the number names
  pub known_write : {m : Message} → message_of t ≡ Some m → (written_as m os first end r ≡ writing t os first end r) × (octets_as m os first end r ≡ octets_written t os first end r)
  unfolding writing octets_written
  known_write k = (rw k, rw k)

  -- a number that names none
  pub unknown_write : message_of t ≡ None → (writing_of (Some bad_call) 0 ≡ writing t os first end r) × (os ≡ octets_written t os first end r)
  unfolding writing octets_written
  unknown_write k = (rw k, rw k)
