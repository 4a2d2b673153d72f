-- Laws of a message that is written: the questions by the answers that the code has, and the bits in parts.
use Rattle.std.specs.Prelude.{ℕ, ◌+◌, ◌-◌, ◌≤◌, ◌≡◌, refl, Bool, true, false, List, [], ◌∷◌, length, None, Some, Result, Ok, Err, IsErrAnd}
use Rattle.std.specs.Result.{result_err}
use Rattle.std.proofs.lemmas.Result.{err_from_is_err_and}
use Rattle.std.proofs.Common.{arith, sym, ap, ◌∙◌, le-leb}
use Rattle.bits.specs.Bits.{Bits}
use Rattle.bits.specs.Placed.{placed, halted, as_moved, left}
use Rattle.bits.specs.Written.{Spot, spot, written, put_bits, put, joined, puts}
use Rattle.bits.specs.WrittenLaws.{Octets, octets-put_bits, length-put_bits, write-there}
use Rattle.bits.specs.PutsLaws.{Puts, all-put}
use Rattle.bits.specs.declared.bitbuffer.Cursor.{Cursor}
use Rattle.bits.specs.declared.pdu_parse_error.PduParseErr.{PduParseErr}
use Rattle.messages.specs.Questions.{Question, fits, ciphered, attached, formed, alive, saving, type3_only, short, Asked, tests, first_no}
use Rattle.messages.proofs.RoundTrip.{Passed, passed}
use Rattle.message_writers.specs.Writes.{write_message, as_asked}
use Rattle.message_writers.specs.declared.questions.Answers.{Answers}

-- ## the questions

-- the answers to the questions about a message, and its length in bits, which is looked at where questions 8 and 14 are passed
pub record Answered (a : Asked) (xs : Bits) (r : Answers) : Type 0 where
  pub is : (q : Question) → as_asked r q ≡ a q
  pub size : a fits ≡ true → a type3_only ≡ true → r.size ≡ length xs

first-is : {a : Asked} {xs : Bits} {r : Answers} → Answered a xs r → (room : ℕ) → first_no (tests (as_asked r) r.size room) ≡ first_no (tests a (length xs) room)
unfolding first_no tests
first-is {a} {xs} {r} q room =
    rw (q.is fits, q.is ciphered, q.is attached, q.is formed, q.is alive, q.is saving, q.is type3_only, q.is short) (go (a fits) refl (a type3_only) refl)
  where
    go : (f : Bool) → a fits ≡ f → (t : Bool) → a type3_only ≡ t → first_no (tests a r.size room) ≡ first_no (tests a (length xs) room)
    go true f true t = ap (λ (n : ℕ). first_no (tests a n room)) (q.size f t)
    go true f false t = rw t
    go false f t e = rw f

-- what its answers to the questions say, at a cursor
pub record Asking (a : Asked) (xs : Bits) (os : List ℕ) (c : Cursor) (v : Result Unit PduParseErr) : Type 0 where
  pub first : result_err v ≡ first_no (tests a (length xs) (left (length os) c))

-- by the answers
pub asking : {a : Asked} {xs : Bits} {r : Answers} → Answered a xs r → (os : List ℕ) (c : Cursor) (v : Result Unit PduParseErr)
    → result_err v ≡ first_no (tests (as_asked r) r.size (left (length os) c)) → Asking a xs os c v
asking q os c v e = record { first = e ∙ first-is q (left (length os) c) }

module _ {a : Asked} {xs : Bits} {os : List ℕ} {c : Cursor} {v : Result Unit PduParseErr} (q : Asking a xs os c v) where
  none_refused : v ≡ Ok tt → first_no (tests a (length xs) (left (length os) c)) ≡ None
  none_refused z = sym q.first ∙ ap result_err z

  pub all-passed : v ≡ Ok tt → Passed a (length xs) (left (length os) c)
  all-passed z = passed a (length xs) (left (length os) c) (none_refused z)

  -- THE MESSAGE IS WRITTEN, in parts
  pub message-written : {xss : List Bits} {t : Spot} → Octets os → v ≡ Ok tt → joined xss ≡ xs → Puts xss (spot os c) t
      → written t.octets (placed tt t.cursor) ≡ write_message a xs os c
  unfolding write_message
  message-written o z e p =
      let room = (all-passed z).enough in
      rw (none_refused z) (ap (λ (t : Spot). written t.octets (placed tt t.cursor)) (all-put xs o e room p) ∙ sym (write-there xs os c room))

  message-refused : {k : PduParseErr} → v ≡ Err k → written os (halted k) ≡ write_message a xs os c
  unfolding write_message
  message-refused {k} z = let e : first_no (tests a (length xs) (left (length os) c)) ≡ Some k = sym q.first ∙ ap result_err z in rw e

  -- A REFUSAL HANDED UP by `?`
  pub message-handed_up : {k : PduParseErr} (y : Result Cursor PduParseErr) → v ≡ Err k → IsErrAnd y (λ x. x ≡ k) → written os (as_moved y) ≡ write_message a xs os c
  message-handed_up y z h = let w = err_from_is_err_and y h in rw (w.1, w.2) (message-refused z)

-- ## bits put in several fields

-- are put in one, where there is room for them
pub as_one : {xss : List Bits} {os : List ℕ} {c : Cursor} {t : Spot} (xs : Bits) → Octets os → joined xss ≡ xs → length xs ≤ left (length os) c → Puts xss (spot os c) t
    → Puts (xs ∷ []) (spot os c) t
unfolding puts put
as_one xs o e h p = record { is = all-put xs o e h p ∙ rw (le-leb _ _ h) }

-- what is left behind them, and the octets
pub record LeftBehind (os os' : List ℕ) (c c' : Cursor) (n : ℕ) : Type 0 where
  pub octets : Octets os'
  pub room : left (length os') c' ≡ left (length os) c - n

pub left-behind : {xs : Bits} {os os' : List ℕ} {c c' : Cursor} → Octets os → length xs ≤ left (length os) c → Puts (xs ∷ []) (spot os c) (spot os' c')
    → LeftBehind os os' c c' (length xs)
unfolding puts put
left-behind {xs} {os} {os'} {c} {c'} o h p = record {
  octets = rw (← octets_is) (octets-put_bits os c.at xs);
  room = rw (← octets_is, ← cursor_is, length-put_bits os c.at xs) (omega arith);
}
  where
    there : spot os' c' ≡ spot (put_bits os c.at xs) (record { at = c.at + length xs; end = c.end })
    there = p.is ∙ rw (le-leb _ _ h) refl

    octets_is : put_bits os c.at xs ≡ os'
    octets_is = sym (ap (λ (s : Spot). s.octets) there)

    cursor_is : record { at = c.at + length xs; end = c.end } ≡ c'
    cursor_is = sym (ap (λ (s : Spot). s.cursor) there)
