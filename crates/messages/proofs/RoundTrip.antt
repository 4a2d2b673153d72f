-- WHAT THE WRITER TAKES READS BACK: each record that a writing call takes reads back the same, from exactly the bits written; every other
-- bit is kept.
use Prim.Native.Nat.{ℕ, ◌+◌, ◌-◌, ◌*◌, ◌≤◌}
use Rattle.std.proofs.Common.{arith, sym, ◌∙◌, length-append, leb-true, le-leb}
use Rattle.std.specs.Prelude.{◌≡◌, Bool, true, false, cond, List, [], ◌∷◌, ◌++◌, length, leb, eqb}
use Rattle.std.proofs.Math.Path.{refl, ap}
use Rattle.bits.specs.Bits.{Bits}
use Rattle.bits.specs.Reader.{Answer, got, refused}
use Rattle.bits.specs.ReaderLaws.{zero_one}
use Rattle.bits.specs.Placed.{window}
use Rattle.bits.specs.Written.{put_bits}
use Rattle.bits.specs.WrittenLaws.{Writes, window-written, kept-before, kept-behind, length-kept}
use Rattle.elements.specs.Table.{Counted, counted}
use Rattle.elements.specs.Kinds.{identifier_of, content}
use Rattle.elements.proofs.NumbersLaws.{both}
use Rattle.messages.specs.Questions.{Question, fits, ciphered, attached, formed, alive, saving, type3_only, short, Asked, Test, tests, first_no}
use Rattle.messages.proofs.DescriptionLaws.{Yes, Readable}
use Rattle.messages.proofs.Demand3.{strict-skipping}
use Rattle.messages.specs.Calls.{message_of, format_of, read_message, octets_most, good_window, good_call, window_of, no_reading, reading_of, called, reading}
use Rattle.messages.specs.Calls.{message_bits, message_asked, message_normal, writing_refusal, writing_of, written_as, octets_as}
use Rattle.messages.proofs.ReadBack.{FullRecord, messages_regular, normal-same, read-own, read-full, read_back}
use Rattle.messages.proofs.CallNumbers.{accepted-refused}
use Rattle.messages.proofs.Demand3Calls.{call_is, window-is}
use Rattle.messages.specs.RoundTrip.{RoundTrip, Rewritten, reads_back}
use Rattle.messages.specs.declared.Message.{Message}
use Rattle.messages.specs.declared.Record.{Record}
use Rattle.messages.specs.declared.Writing.{Writing}
use Rattle.std.specs.Prelude.{Option, None, Some, Ok}
use Rattle.bits.specs.PduParseError.{bad_call}
use Rattle.bits.specs.declared.pdu_parse_error.PduParseErr.{PduParseErr}

-- ## a record that passes the questions

-- each test is answered with yes
abbrev AllYes : List Test → Type 0
AllYes [] = Unit
AllYes (t ∷ ts) = (t.answer ≡ true) × AllYes ts

all_yes : (ts : List Test) → first_no ts ≡ None → AllYes ts
unfolding first_no
all_yes [] e = tt
all_yes (t ∷ ts) e = go t.answer refl (λ q. all_yes ts q) e
  where
    go : (b : Bool) → t.answer ≡ b → (first_no ts ≡ None → AllYes ts) → cond b (first_no ts) (Some t.refusal) ≡ None → (t.answer ≡ true) × AllYes ts
    go true h others e = (h, others e)
    go false h others e = zero_one (cc)

pub record Passed (a : Asked) (size room : ℕ) : Type 0 where
  pub asked : Yes a
  pub enough : size ≤ room

pub passed : (a : Asked) (size room : ℕ) → first_no (tests a size room) ≡ None → Passed a size room
unfolding tests
passed a size room e = let y = all_yes (tests a size room) e in record { asked = answers y; enough = leb-true _ _ y.1.1.1.1.1.1.1.1.0 }
  where
    answers : AllYes (tests a size room) → (q : Question) → a q ≡ true
    answers y fits = y.0
    answers y ciphered = y.1.0
    answers y attached = y.1.1.0
    answers y formed = y.1.1.1.0
    answers y alive = y.1.1.1.1.0
    answers y saving = y.1.1.1.1.1.0
    answers y type3_only = y.1.1.1.1.1.1.0
    answers y short = y.1.1.1.1.1.1.1.0

-- ## what was written reads back

-- what a writing call that took the record says
record Took (m : Message) (os : List ℕ) (first end : ℕ) (r : Record) (n : ℕ) : Type 0 where
  inside : good_window (length os) first end ≡ true
  asked : Passed (message_asked m r) (length (message_bits m r)) (end - first)
  bits : n ≡ length (message_bits m r)
  octets : octets_as m os first end r ≡ put_bits os first (message_bits m r)

module _ (m : Message) (os : List ℕ) (first end : ℕ) (r : Record) where
  xs : Bits
  xs = message_bits m r

  granted : writing_refusal m (length os) first end r ≡ None
      → (good_window (length os) first end ≡ true) × Passed (message_asked m r) (length xs) (end - first)
  unfolding writing_refusal xs
  granted e = go (good_window (length os) first end) refl e
    where
      go : (b : Bool) → good_window (length os) first end ≡ b → cond b (first_no (tests (message_asked m r) (length (message_bits m r)) (end - first))) (Some bad_call) ≡ None
          → (good_window (length os) first end ≡ true) × Passed (message_asked m r) (length (message_bits m r)) (end - first)
      go true w e = (w, passed (message_asked m r) (length (message_bits m r)) (end - first) e)
      go false w e = zero_one (cc)

  took : (n : ℕ) → written_as m os first end r ≡ record { verdict = Ok tt; written = n } → Took m os first end r n
  unfolding written_as octets_as xs
  took n e = go (writing_refusal m (length os) first end r) refl e
    where
      go : (k : Option PduParseErr) → writing_refusal m (length os) first end r ≡ k → writing_of k (length xs) ≡ record { verdict = Ok tt; written = n } → Took m os first end r n
      go None h e = let g = granted h in record { inside = g.0; asked = g.1; bits = ap (λ (w : Writing). w.written) (sym e); octets = rw h }
      go (Some k) h e = accepted-refused (sym (ap (λ (w : Writing). w.verdict) e))

-- both readings of a window whose bits begin with those of the record
reads_back_lem : (m : Message) (r : Record) → FullRecord m r → Readable (message_asked m r) → (b : Bool) (rest : Bits)
    → read_message m b (message_bits m r ++ rest) ≡ got (counted 0 (message_normal m r)) rest
reads_back_lem m r full y false rest = read_back m r full y rest
reads_back_lem m r full y true rest =
    strict-skipping identifier_of content (format_of m) (messages_regular m) (message_bits m r ++ rest) (counted 0 (message_normal m r)) rest (read_back m r full y rest)

pub round_trip : (t : ℕ) (m : Message) → message_of t ≡ Some m → (os : List ℕ) (first end : ℕ) (r : Record) (n : ℕ) → FullRecord m r
    → written_as m os first end r ≡ record { verdict = Ok tt; written = n } → RoundTrip t os first end r n (octets_as m os first end r)
round_trip t m known os first end r n full e =
    let w = took m os first end r n e in
    let q = both (leb (length os) octets_most) _ (rw (window-is (length os) first end) at w.inside) in
    let v = both (leb first end) _ q.1 in
    let few : length os ≤ octets_most = leb-true _ _ q.0 in
    let up : first ≤ end = leb-true _ _ v.0 in
    let in-octets : end ≤ 8 * length os = leb-true _ _ v.1 in
    let room = w.asked.enough in
    let eq = w.bits in
    let wrote : Writes ys os (record { at = first; end = end }) os' (record { at = first + length ys; end = end }) =
    record { room = omega arith; octets = w.octets; next = refl } in
    let exact : Writes ys os (record { at = first; end = first + n }) os' (record { at = first + length ys; end = first + n }) =
    record { room = omega arith; octets = w.octets; next = refl } in
    let same_length : length os' ≡ length os = length-kept wrote in
    let good : good_window (length os') first end ≡ true = rw same_length w.inside in
    let good-exact : good_window (length os') first (first + n) ≡ true =
    rw (same_length, window-is (length os) first (first + n), le-leb (length os) octets_most few, le-leb first (first + n) (omega arith), le-leb (first + n) (8 * length os) (omega arith)) in
    record {
      message = m;
      known = known;
      strict = answer 0 refl end w.asked.asked good (window os (record { at = first + length ys; end = end })) (window-written wrote) eq;
      strict-exact = answer 0 refl (first + n) w.asked.asked good-exact (window os (record { at = first + length ys; end = first + n })) (window-written exact) eq;
      skipping = answer 1 refl end w.asked.asked good (window os (record { at = first + length ys; end = end })) (window-written wrote) eq;
      skipping-exact = answer 1 refl (first + n) w.asked.asked good-exact (window os (record { at = first + length ys; end = first + n })) (window-written exact) eq;
      same = normal-same m r full (w.asked.asked fits);
      before = kept-before wrote;
      behind = rw eq (kept-behind wrote);
      length-kept = same_length;
    }
  where
    ys : Bits
    ys = message_bits m r

    os' : List ℕ
    os' = octets_as m os first end r

    answer : (how : ℕ) → leb how 1 ≡ true → (stop : ℕ) → Yes (message_asked m r)
        → good_window (length os') first stop ≡ true → (rest : Bits) → window_of os' first stop ≡ ys ++ rest → n ≡ length ys
        → reading t how os' first stop ≡ reads_back first n (message_normal m r)
    answer how h stop y good rest e l =
        let c : length (ys ++ rest) - length rest ≡ n = omega (arith, length-append ys rest) in
        call_is t known how os' first stop h good ∙ rw (e, reads_back_lem m r full (λ q a. y q) (eqb how 1) rest) (rw c)

-- the same of an answer and the octets after it, as a writing call gives them
pub written_back : (t : ℕ) (m : Message) → message_of t ≡ Some m → (os : List ℕ) (first end : ℕ) (r : Record) {w : Writing} {os' : List ℕ} → FullRecord m r
    → w ≡ written_as m os first end r → os' ≡ octets_as m os first end r → w.verdict ≡ Ok tt → RoundTrip t os first end r w.written os'
written_back t m known os first end r {w} full e h v =
    rw h (round_trip t m known os first end r w.written full (sym e ∙ λ i. record { verdict = v i; written = w.written }))

-- ## a record that a reading gave

module _ (m : Message) (t how : ℕ) (known : message_of t ≡ Some m) (os : List ℕ) (first end : ℕ) where
  -- it has full arrays, and is its own normal form
  record WasRead (r : Record) : Type 0 where
    full : FullRecord m r
    own : message_normal m r ≡ r

  was-read : (reading t how os first end).verdict ≡ Ok tt → WasRead (reading t how os first end).«record»
  unfolding reading
  was-read e = rw known (go (good_call how (length os) first end) (rw known at e))
    where
      w : Bits
      w = window_of os first end

      inner : (x : Answer (Counted Record)) → read_message m (eqb how 1) w ≡ x → (reading_of first (length w) x).verdict ≡ Ok tt
          → WasRead (reading_of first (length w) x).«record»
      inner (got x rest) p e = record { full = read-full m (eqb how 1) w p; own = read-own m (eqb how 1) w p }
      inner (refused k) p e = accepted-refused (sym e)

      go : (b : Bool) → (cond b (called m (eqb how 1) os first end) (no_reading bad_call first)).verdict ≡ Ok tt
          → WasRead (cond b (called m (eqb how 1) os first end) (no_reading bad_call first)).«record»
      go true e = inner (read_message m (eqb how 1) w) refl e
      go false e = accepted-refused (sym e)

  -- WHAT WAS READ AND IS WRITTEN ELSEWHERE reads back there
  pub rewritten_back : (out : List ℕ) (out_first out_end : ℕ) {r : Record} {w : Writing} {out' : List ℕ} → r ≡ (reading t how os first end).«record»
      → w ≡ written_as m out out_first out_end r → out' ≡ octets_as m out out_first out_end r
      → (reading t how os first end).verdict ≡ Ok tt → w.verdict ≡ Ok tt → Rewritten t out out_first out_end r w.written out'
  rewritten_back out out_first out_end {r} was e h read v =
      let g = was-read read in
      let full : FullRecord m r = rw was g.full in
      let own : message_normal m r ≡ r = rw was g.own in
      record {
        back = written_back t m known out out_first out_end r full e h v;
        own = λ k other. let same : m ≡ k = cc in rw (← same) own;
      }
