-- A message's reader at the front of a window, and the answer of the reading call.
use Rattle.std.specs.Prelude.{ℕ, ◌+◌, ◌-◌, ◌*◌, ◌/◌, ◌≤◌, min, ◌≡◌, Bool, true, false, cond, List, take, drop, leb, eqb}
use native.Mathlib.Omega.{arith}
use Rattle.std.proofs.Math.Path.{refl}
use Rattle.std.proofs.Common.{sym, ap, ◌∙◌, length-drop, take_all}
use Rattle.std.specs.Prelude.{Option, None, Some}
use Rattle.std.proofs.Math.ListN.{length}
use borrow.Author.Tests.{leb-true}
use Rattle.bits.specs.PduParseError.{bad_call}
use Rattle.bits.specs.Bits.{Bits}
use Rattle.bits.specs.Reader.{Answer, got, refused}
use Rattle.bits.specs.ReaderLaws.{zero_one}
use Rattle.bits.specs.Placed.{window, Placed, placed, halted, at}
use Rattle.bits.specs.PlacedLaws.{told, told-not, length-window}
use Rattle.bits.specs.declared.bitbuffer.Cursor.{Cursor}
use Rattle.elements.proofs.NumbersLaws.{both}
use Rattle.elements.specs.Table.{Counted}
use Rattle.elements.specs.Kinds.{Element, identifier_of, content}
use Rattle.messages.proofs.FormatLaws.{message-made}
use Rattle.messages.proofs.Demand3.{message_tail}
use Rattle.messages.proofs.ReadBack.{messages_regular}
use Rattle.messages.proofs.CallNumbers.{accepted-refused}
use Rattle.messages.specs.Calls.{accepted, called, message_of, format_of, read_message, octets_most, good_window, good_call, window_of, no_reading, reading_of, reading_as, reading, behind}
use Rattle.messages.specs.MessageAnswers.{message_answer, Kept}
use Rattle.messages.specs.declared.Message.{Message}
use Rattle.messages.specs.declared.MessageRead.{MessageRead}
use Rattle.messages.specs.declared.Record.{Record}
use Rattle.messages.specs.declared.Reading.{Reading}
use Rattle.std.specs.Prelude.{Result, Ok, Err}
use Rattle.bits.specs.declared.pdu_parse_error.PduParseErr.{PduParseErr}

count-refused : {B : Type 0} {x : ℕ × Cursor} {e : PduParseErr} → ◌≡◌ {A = Result (ℕ × Cursor) PduParseErr} (Ok x) (Err e) → B
count-refused e = zero_one (cc)

ok-same : {n m : ℕ} {j k : Cursor} → ◌≡◌ {A = Result (ℕ × Cursor) PduParseErr} (Ok (n, j)) (Ok (m, k)) → (n ≡ m) × (j ≡ k)
ok-same {n} {m} {j} {k} e = (ap (λ (r : Result (ℕ × Cursor) PduParseErr). (value_in (n, j) r).0) e, ap (λ (r : Result (ℕ × Cursor) PduParseErr). (value_in (n, j) r).1) e)
  where
    value_in : ℕ × Cursor → Result (ℕ × Cursor) PduParseErr → ℕ × Cursor
    value_in x (Ok y) = y
    value_in x (Err e) = x

module _ (m : Message) where
  -- what holds of each record that is made of a head and slots holds of each record that is read
  made_by : (P : Record → Type 0) → ((h : (format_of m).Head) (vs : List (Option Element)) → P ((format_of m).finish h vs))
      → (b : Bool) (bs : Bits) {x : Counted Record} {rest : Bits} → read_message m b bs ≡ got x rest → P x.value
  made_by P made b bs e =
      message-made identifier_of content (format_of m) (λ x. P x.value) b bs (λ h mid p o y r q. made h y.value) (λ h mid p o. made h _) e

  module _ {R : Type 0} {own : Record → R} {of : R → Record} (o : Kept m own of)
      (b : Bool) (os : List ℕ) (c : Cursor) {y : MessageRead R} (e : y ≡ message_answer own (at (read_message m b) os c)) where
    pub record Taken (n : ℕ) (k : Cursor) : Type 0 where
      pub on : c.at ≤ k.at
      pub answer : accepted c.at n k (of y.«record») ≡ called m b os c.at c.end

    pub taken : {n : ℕ} {k : Cursor} → y.verdict ≡ Ok (n, k) → Taken n k
    taken {n} {k} v = go (at (read_message m b) os c) refl
      where
        go : (p : Placed (Counted Record)) → at (read_message m b) os c ≡ p → Taken n k
        go (placed x j) q =
            let pair = ok-same (sym (ap (λ (y : MessageRead R). y.verdict) (e ∙ ap (message_answer own) q)) ∙ v) in
            let count : x.skipped ≡ n = pair.0 in
            let same : j ≡ k = pair.1 in
            let t = told (message_tail identifier_of content (format_of m) (messages_regular m) b) {a = x} {k = k} (record { eq = q ∙ ap (placed x) same }) in
            let mine : of y.«record» ≡ x.value = ap (λ (y : MessageRead R). of y.«record») (e ∙ ap (message_answer own) q)
            ∙ made_by (λ r. of (own r) ≡ r) (λ h vs. o.is h vs) b (window os c) t.said in
            let consumed : k.at - c.at ≡ length (window os c) - length (window os k) = omega (arith, t.used, t.on) in
            let place : k.at ≡ c.at + (length (window os c) - length (window os k)) = omega (arith, t.used, t.on) in
            record { on = t.on; answer = rw t.said (rw (mine, ← count, ← place, ← consumed)) }
        go (halted i) q = count-refused (sym v ∙ ap (λ (y : MessageRead R). y.verdict) (e ∙ ap (message_answer own) q))

    -- a refusal
    pub not_taken : {n : PduParseErr} → y.verdict ≡ Err n → no_reading n c.at ≡ called m b os c.at c.end
    not_taken {n} v = go (at (read_message m b) os c) refl
      where
        go : (p : Placed (Counted Record)) → at (read_message m b) os c ≡ p → no_reading n c.at ≡ called m b os c.at c.end
        go (placed x j) q = count-refused (sym (ap (λ (y : MessageRead R). y.verdict) (e ∙ ap (message_answer own) q)) ∙ v)
        go (halted k) q =
            let told_verdict : ◌≡◌ {A = Result (ℕ × Cursor) PduParseErr} (Err k) (Err n) = sym (ap (λ (y : MessageRead R). y.verdict) (e ∙ ap (message_answer own) q)) ∙ v in
            let same : k ≡ n = cc in
            rw (told-not (record { eq = q }), same)

-- ## the call

module _ (m : Message) (how : ℕ) (os : List ℕ) (first end : ℕ) where
  pub good_call_lem : good_call how (length os) first end ≡ true → called m (eqb how 1) os first end ≡ reading_as (Some m) how os first end
  good_call_lem g = rw g

  -- A GOOD CALL, by the verdict of the message's reader
  module _ {R : Type 0} {own : Record → R} {of : R → Record} (o : Kept m own of) (good : good_call how (length os) first end ≡ true) {y : MessageRead R}
      (e : y ≡ message_answer own (at (read_message m (eqb how 1)) os (record { at = first; end = end }))) where
    pub call_taken : {n : ℕ} {k : Cursor} → y.verdict ≡ Ok (n, k) → accepted first n k (of y.«record») ≡ reading_as (Some m) how os first end
    call_taken v = (taken m o (eqb how 1) os _ e v).answer ∙ good_call_lem good

    pub call_refused : {n : PduParseErr} → y.verdict ≡ Err n → no_reading n first ≡ reading_as (Some m) how os first end
    call_refused v = not_taken m o (eqb how 1) os _ e v ∙ good_call_lem good

-- the window of a good call lies inside the octets, which are few
pub good_window_lem : (how n first end : ℕ) → good_call how n first end ≡ true → (first ≤ end) × (end ≤ 8 * n) × (n ≤ octets_most)
unfolding good_call good_window
good_window_lem how n first end g =
    let w = (both (leb how 1) _ g).1 in
    let inside = both (leb first end) _ (both (leb n octets_most) _ w).1 in
    (leb-true _ _ inside.0, leb-true _ _ inside.1, leb-true _ _ (both (leb n octets_most) _ w).0)

-- by a type number, which names a message or none
pub named_call : (t : ℕ) {o : Option Message} → message_of t ≡ o → (how : ℕ) (os : List ℕ) (first end : ℕ)
    → reading_as o how os first end ≡ reading t how os first end
unfolding reading
named_call t e how os first end = rw e

module _ (o : Option Message) (how : ℕ) (os : List ℕ) (first end : ℕ) where
  pub bad_call_lem : good_call how (length os) first end ≡ false → no_reading bad_call first ≡ reading_as o how os first end
  bad_call_lem g = go o
    where
      go : (o : Option Message) → no_reading bad_call first ≡ reading_as o how os first end
      go None = refl
      go (Some m) = rw g

  -- and so does a record's place
  pub place_inside : {r : Reading} → r ≡ reading_as o how os first end → r.verdict ≡ Ok tt → (r.place ≤ 8 * length os) × (length os ≤ octets_most)
  place_inside e v = rw e (go o (rw e at v))
    where
      at_place : (x : Answer (Counted Record)) → (reading_of first (length (window_of os first end)) x).verdict ≡ Ok tt
          → (reading_of first (length (window_of os first end)) x).place ≤ first + length (window_of os first end)
      at_place (got x rest) v = omega arith
      at_place (refused n) v = accepted-refused (sym v)

      by_call : (m : Message) (g : Bool) → good_call how (length os) first end ≡ g → (cond g (called m (eqb how 1) os first end) (no_reading bad_call first)).verdict ≡ Ok tt
          → ((cond g (called m (eqb how 1) os first end) (no_reading bad_call first)).place ≤ 8 * length os) × (length os ≤ octets_most)
      by_call m true g v =
          let w = good_window_lem how (length os) first end g in
          let l : length (window_of os first end) ≡ min (end - first) (8 * length os - first) = length-window os (record { at = first; end = end }) in
          let p = at_place (read_message m (eqb how 1) (window_of os first end)) v in
          (omega arith, w.2)
      by_call m false g v = accepted-refused (sym v)

      go : (o : Option Message) → (reading_as o how os first end).verdict ≡ Ok tt
          → ((reading_as o how os first end).place ≤ 8 * length os) × (length os ≤ octets_most)
      go None v = accepted-refused (sym v)
      go (Some m) v = by_call m (good_call how (length os) first end) refl v

-- the octets behind it are an end of them
module _ (os : List ℕ) {r x : Reading} (e : r ≡ x) where
  pub behind-place : r.verdict ≡ Ok tt → take (length os - (r.place + 7) / 8) (drop ((r.place + 7) / 8) os) ≡ behind x os
  behind-place v = rw (← e) (rw v (take_all (length os - (r.place + 7) / 8) (drop ((r.place + 7) / 8) os) (simp length-drop (omega arith))))

  pub behind-refused : {n : PduParseErr} → r.verdict ≡ Err n → os ≡ behind x os
  behind-refused v = rw (← e) (rw v)
