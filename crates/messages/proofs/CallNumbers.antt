-- The refusals of the calls: each is one of the call's list; and what a refusal's answer is.
use Prim.Native.Nat.{ℕ, ◌-◌}
use Rattle.std.specs.Prelude.{◌≡◌, refl, ◌⊎◌, Bool, true, false, cond, List, [], ◌∷◌, map, length, eqb}
use Rattle.std.proofs.Math.Logic.{inl, inr}
use Rattle.std.proofs.Common.{sym, ap}
use Rattle.bits.specs.PduParseError.{bad_call}
use Rattle.bits.specs.Bits.{Bits}
use Rattle.bits.specs.Reader.{Answer, got, refused}
use Rattle.bits.specs.ReaderLaws.{zero_one}
use Rattle.bits.specs.Written.{put_bits}
use Rattle.elements.specs.Refusals.{OneOf}
use Rattle.elements.specs.Table.{Counted, is_listed}
use Rattle.elements.specs.Kinds.{Element, identifier_of, content}
use Rattle.elements.specs.declared.typed_pdu_fields.Row.{Row}
use Rattle.elements.proofs.Numbered.{Numbered, bind_numbered, got-numbered, scan-numbered, content-numbered}
use Rattle.messages.specs.Format.{Format, body, message}
use Rattle.messages.specs.Questions.{Asked, Test, tests, first_no, question_refusals}
use Rattle.messages.specs.Calls.{description_of, message_of, tie_of, format_of, read_message, good_window, good_call, window_of, no_reading, reading_of, called, reading_as, reading, message_bits, message_asked}
use Rattle.messages.specs.Calls.{writing_refusal, writing_of, octets_after, written_as, octets_as, writing_as, octets_by, writing, octets_written, reading_refusals, writing_refusals}
use Rattle.messages.proofs.DescriptionLaws.{head-numbered}
use Rattle.messages.proofs.ReadBack.{all_sound}
use Rattle.messages.specs.declared.Message.{Message}
use Rattle.messages.specs.declared.Record.{Record}
use Rattle.messages.specs.declared.Reading.{Reading}
use Rattle.messages.specs.declared.Writing.{Writing}
use Rattle.std.specs.Prelude.{Option, None, Some, Result, Ok, Err}
use Rattle.bits.specs.declared.pdu_parse_error.PduParseErr.{PduParseErr}

-- ## a message

body-numbered : (f : Format Row Element Record) (b : Bool) (h : f.Head) (more : Bool) → Numbered (body identifier_of content f b h more)
body-numbered f b h true =
    bind_numbered _ _ (scan-numbered identifier_of content content-numbered (is_listed identifier_of f.table) b f.table) (λ x. got-numbered _)
body-numbered f b h false = got-numbered _

message-numbered : (m : Message) (b : Bool) → Numbered (read_message m b)
unfolding message
message-numbered m b =
    bind_numbered (format_of m).head _ (head-numbered (description_of m) (all_sound m) (tie_of m).options (tie_of m).head)
    (λ h. body-numbered (format_of m) b h ((format_of m).more h))

-- ## reading calls

pub accepted-refused : {A : Type 0} {n : PduParseErr} → ◌≡◌ {A = Result Unit PduParseErr} (Ok tt) (Err n) → A
accepted-refused e = zero_one (cc)

refused-number : {m n : PduParseErr} → ◌≡◌ {A = Result Unit PduParseErr} (Err m) (Err n) → m ≡ n
refused-number e = cc

-- A READING IS REFUSED with one of its list, and its answer is then the empty one at the first bit
pub record ReadingRefused (r : Reading) (e : PduParseErr) (first : ℕ) : Type 0 where
  pub one_of : OneOf e reading_refusals
  pub empty : r ≡ no_reading e first

bad-refused : (first : ℕ) {n : PduParseErr} → (no_reading bad_call first).verdict ≡ Err n → ReadingRefused (no_reading bad_call first) n first
bad-refused first e = rw (← refused-number e) (record { one_of = inl refl; empty = refl })

module _ (how : ℕ) (os : List ℕ) (first end : ℕ) where
  called_refused : (m : Message) (b : Bool) {n : PduParseErr} → (called m b os first end).verdict ≡ Err n → ReadingRefused (called m b os first end) n first
  called_refused m b {n} e = go (read_message m b w) refl e
    where
      w : Bits
      w = window_of os first end

      go : (x : Answer (Counted Record)) → read_message m b w ≡ x → (reading_of first (length w) x).verdict ≡ Err n → ReadingRefused (reading_of first (length w) x) n first
      go (got x rest) p e = accepted-refused e
      go (refused k) p e = rw (← refused-number e) (record { one_of = inr ((message-numbered m b).at w k p); empty = refl })

  pub reading-refused : (m : ℕ) {n : PduParseErr} → (reading m how os first end).verdict ≡ Err n → ReadingRefused (reading m how os first end) n first
  unfolding reading
  reading-refused m {n} e = go (message_of m) e
    where
      by_call : (m : Message) (b : Bool) → (cond b (called m (eqb how 1) os first end) (no_reading bad_call first)).verdict ≡ Err n
          → ReadingRefused (cond b (called m (eqb how 1) os first end) (no_reading bad_call first)) n first
      by_call m true e = called_refused m (eqb how 1) e
      by_call m false e = bad-refused first e

      go : (o : Option Message) → (reading_as o how os first end).verdict ≡ Err n → ReadingRefused (reading_as o how os first end) n first
      go None e = bad-refused first e
      go (Some m) e = by_call m (good_call how (length os) first end) e

-- ## writing calls

-- A WRITING IS REFUSED with one of its list, writes no bit and changes no octet
pub record WritingRefused (w : Writing) (os os' : List ℕ) (e : PduParseErr) : Type 0 where
  pub one_of : OneOf e writing_refusals
  pub none_written : w.written ≡ 0
  pub kept : os' ≡ os

-- of any tests, the first that fails is one of their refusals
first_no-one_of : (ts : List Test) {e : PduParseErr} → first_no ts ≡ Some e → OneOf e (map (λ (t : Test). t.refusal) ts)
unfolding first_no
first_no-one_of [] p = zero_one (cc)
first_no-one_of (t ∷ ts) {e} p = go t.answer (λ q. first_no-one_of ts q) p
  where
    go : (b : Bool) → (first_no ts ≡ Some e → OneOf e (map (λ (t : Test). t.refusal) ts)) → cond b (first_no ts) (Some t.refusal) ≡ Some e
        → (e ≡ t.refusal) ⊎ OneOf e (map (λ (t : Test). t.refusal) ts)
    go true others p = inr (others p)
    go false others p = let same : t.refusal ≡ e = cc in inl (sym same)

tests-one_of : (a : Asked) (size room : ℕ) {e : PduParseErr} → first_no (tests a size room) ≡ Some e → OneOf e question_refusals
unfolding tests
tests-one_of a size room p = first_no-one_of (tests a size room) p

module _ (os : List ℕ) (first end : ℕ) (r : Record) where
  refusal-one_of : (m : Message) {e : PduParseErr} → writing_refusal m (length os) first end r ≡ Some e → OneOf e writing_refusals
  unfolding writing_refusal
  refusal-one_of m {e} = go (good_window (length os) first end)
    where
      x : Option PduParseErr
      x = first_no (tests (message_asked m r) (length (message_bits m r)) (end - first))

      go : (b : Bool) → cond b x (Some bad_call) ≡ Some e → OneOf e writing_refusals
      go true p = inr (tests-one_of (message_asked m r) (length (message_bits m r)) (end - first) p)
      go false p = let same : bad_call ≡ e = cc in inl (sym same)

  as-refused : (m : Message) {e : PduParseErr} → (written_as m os first end r).verdict ≡ Err e → WritingRefused (written_as m os first end r) os (octets_as m os first end r) e
  unfolding written_as octets_as
  as-refused m {e} h = go (writing_refusal m (length os) first end r) (λ p. refusal-one_of m p) h
    where
      n : ℕ
      n = length (message_bits m r)

      go : (o : Option PduParseErr) → (o ≡ Some e → OneOf e writing_refusals) → (writing_of o n).verdict ≡ Err e
          → WritingRefused (writing_of o n) os (octets_after o os (put_bits os first (message_bits m r))) e
      go None k v = accepted-refused v
      go (Some j) k v = record { one_of = k (ap Some (refused-number v)); none_written = refl; kept = refl }

  pub writing-refused : (m : ℕ) {e : PduParseErr} → (writing m os first end r).verdict ≡ Err e → WritingRefused (writing m os first end r) os (octets_written m os first end r) e
  unfolding writing octets_written
  writing-refused m {e} = go (message_of m)
    where
      go : (o : Option Message) → (writing_as o os first end r).verdict ≡ Err e → WritingRefused (writing_as o os first end r) os (octets_by o os first end r) e
      go None v = rw (← refused-number v) (record { one_of = inl refl; none_written = refl; kept = refl })
      go (Some m) v = as-refused m v
