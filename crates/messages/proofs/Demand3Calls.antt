-- DEMAND 3 of the order, of reading calls on octets and windows: one claim about the whole list of outer elements, however long.
use Rattle.std.specs.Prelude.{ℕ, ◌+◌, ◌-◌, ◌*◌, ◌/◌, ◌≤◌, ◌<◌, min, ◌≡◌, refl, ◌↔◌, true, false, ◌&&◌, List, ◌++◌, length, replicate, leb, eqb}
use Rattle.std.proofs.Common.{arith, sym, ap, ◌∙◌, length-append, take_at, leb-true, le-leb}
use Rattle.std.proofs.lemmas.List.{length-replicate}
use Rattle.bits.specs.Bits.{Bits}
use Rattle.bits.specs.Reader.{Answer, got, refused}
use Rattle.bits.specs.ReaderLaws.{got-refused}
use Rattle.bits.specs.Placed.{window}
use Rattle.bits.specs.PlacedLaws.{length-window}
use Rattle.bits.specs.Written.{octets_of}
use Rattle.bits.specs.WrittenLaws.{Octets, octets-octets_of, length-octets_of, bits_of-octets_of}
use Rattle.elements.specs.Table.{Counted, counted, Piece, total}
use Rattle.elements.specs.Kinds.{identifier_of, content}
use Rattle.elements.proofs.NumbersLaws.{both}
use Rattle.messages.specs.Format.{leaves, stays}
use Rattle.messages.proofs.Demand3.{Refuses, Inside, Demand3, demand3}
use Rattle.messages.specs.Calls.{message_of, format_of, read_message, walk_over, octets_most, good_window, good_call, window_of, reading_of, called, reading}
use Rattle.messages.specs.declared.Message.{Message}
use Rattle.messages.proofs.ReadBack.{messages_regular}
use Rattle.messages.proofs.CallNumbers.{accepted-refused}
use Rattle.messages.specs.declared.Record.{Record}
use Rattle.messages.specs.declared.Reading.{Reading}
use Rattle.std.specs.Prelude.{Some, Ok, Err}
use Rattle.bits.specs.declared.pdu_parse_error.PduParseErr.{PduParseErr}

-- a call gives a record, or none
pub record Gives (r : Reading) (v : Record) : Type 0 where
  pub accepted : r.verdict ≡ Ok tt
  pub same : r.«record» ≡ v

abbrev pub GivesNone : Reading → Type 0
GivesNone r = (n : PduParseErr) × (r.verdict ≡ Err n)

-- a call S that skips, and a strict call T on the message with the elements us cut out
pub record SkipsTo (S T : Reading) (us : List Piece) : Type 0 where
  -- S gives a record exactly when T gives that same record
  pub same : (v : Record) → Gives S v ↔ Gives T v
  -- with that record, S's count skipped is the number of elements cut
  pub skipped : S.verdict ≡ Ok tt → S.skipped ≡ length us
  -- and its bits consumed are T's plus the bits cut
  pub consumed : S.verdict ≡ Ok tt → S.consumed ≡ T.consumed + total us

-- DEMAND 3 for the call on t, the type number of the message m, and on os, first and end
pub record Demand3Call (t : ℕ) (m : Message) (os : List ℕ) (first end : ℕ) : Type 0 where
  -- the walk stays inside the window, us are the elements to cut and c is the cut message: in any octets and window that hold exactly c
  pub inside : (us : List Piece) (c : Bits) → walk_over m (window_of os first end) ≡ stays us c
      → (os' : List ℕ) (first' end' : ℕ) → good_window (length os') first' end' ≡ true → window_of os' first' end' ≡ c
      → SkipsTo (reading t 1 os first end) (reading t 0 os' first' end') us
  -- of which there are some
  pub exists : (us : List Piece) (c : Bits) → walk_over m (window_of os first end) ≡ stays us c
      → (os' : List ℕ) × (end' : ℕ) × Octets os' × (good_window (length os') 0 end' ≡ true) × (window_of os' 0 end' ≡ c)
  -- if one or more elements are cut, the strict reading gives no record for the uncut message
  pub uncut : (us : List Piece) (c : Bits) → walk_over m (window_of os first end) ≡ stays us c → 0 < length us → GivesNone (reading t 0 os first end)
  -- where the walk leaves the window, neither reading gives a record
  pub outside : walk_over m (window_of os first end) ≡ leaves → GivesNone (reading t 1 os first end) × GivesNone (reading t 0 os first end)

-- ## a call that passes question 1

pub window-is : (n first end : ℕ) → good_window n first end ≡ (leb n octets_most && (leb first end && leb end (8 * n)))
unfolding good_window
window-is n first end = refl

pub call_is : (t : ℕ) {m : Message} → message_of t ≡ Some m → (how : ℕ) (os : List ℕ) (first end : ℕ) → leb how 1 ≡ true → good_window (length os) first end ≡ true
    → reading t how os first end ≡ called m (eqb how 1) os first end
unfolding reading good_call
call_is t k how os first end h w = rw (k, h, w)

refused_none : (first n : ℕ) (x : Answer (Counted Record)) → Refuses x → GivesNone (reading_of first n x)
refused_none first n x (k, e) = (k, rw e)

got-value : {A : Type 0} {a b : A} {r s : Bits} → got a r ≡ got b s → a ≡ b
got-value e = cc

got-rest : {A : Type 0} {a b : A} {r s : Bits} → got a r ≡ got b s → r ≡ s
got-rest e = cc

-- ## bits packed into octets from bit 0 on

-- how many octets n bits take
abbrev octets_for : ℕ → ℕ
octets_for n = (n + 7) / 8

packed : (c : Bits) → length c ≤ 8 * octets_most → (os : List ℕ) × (end : ℕ) × Octets os × (good_window (length os) 0 end ≡ true) × (window_of os 0 end ≡ c)
unfolding good_window window
packed c h =
    let n : ℕ = octets_for (length c) in
    let pad : Bits = replicate (8 * n - length c) false in
    let long : length (c ++ pad) ≡ 8 * n = length-append c pad ∙ (omega (arith, length-replicate (8 * n - length c) false)) in
    let l : length (octets_of n (c ++ pad)) ≡ n = length-octets_of n (c ++ pad) in (
      octets_of n (c ++ pad),
      length c,
      octets-octets_of n (c ++ pad),
      rw (l, le-leb n octets_most (omega arith), le-leb 0 (length c) (omega arith), le-leb (length c) (8 * n) (omega arith)),
      rw (bits_of-octets_of n (c ++ pad) long) (take_at c pad (length c - 0) (omega arith)),
    )

-- the strict reading's count is 0
strict-value : (m : Message) (c : Bits) (y : Counted Record) (rest : Bits) → read_message m false c ≡ got y rest → y ≡ counted 0 y.value
strict-value m c y rest e = ap (λ (n : ℕ). counted n y.value) ((demand3 identifier_of content (format_of m) (messages_regular m) c).counts y rest e)

skips-to : (m : Message) (bs c : Bits) (us : List Piece) (first first' : ℕ) → Inside identifier_of content (format_of m) bs us c
    → SkipsTo (reading_of first (length bs) (read_message m true bs)) (reading_of first' (length c) (read_message m false c)) us
skips-to m bs c us first first' i = go (read_message m true bs) refl (read_message m false c) refl
  where
    there : (x : Counted Record) (rest : Bits) → read_message m true bs ≡ got x rest → (x.skipped ≡ length us) × (read_message m false c ≡ got (counted 0 x.value) rest)
    there x rest e = (i.same x rest).0 e

    back : (y : Counted Record) (rest : Bits) → read_message m false c ≡ got y rest → read_message m true bs ≡ got (counted (length us) y.value) rest
    back y rest e = (i.same (counted (length us) y.value) rest).1 (refl, e ∙ ap (λ (z : Counted Record). got z rest) (strict-value m c y rest e))

    go : (x : Answer (Counted Record)) → read_message m true bs ≡ x → (y : Answer (Counted Record)) → read_message m false c ≡ y
        → SkipsTo (reading_of first (length bs) x) (reading_of first' (length c) y) us
    go (got x rest) p (got y rest') q =
        let t = there x rest p in
        let e : ◌≡◌ {A = Answer (Counted Record)} (got y rest') (got (counted 0 x.value) rest) = sym q ∙ t.1 in
        let v : y.value ≡ x.value = ap (λ (z : Counted Record). z.value) (got-value e) in
        let r : rest' ≡ rest = got-rest e in
        record {
          same = λ u. ((λ g. record { accepted = refl; same = v ∙ g.same }), (λ g. record { accepted = refl; same = sym v ∙ g.same }));
          skipped = λ a. t.0;
          consumed = λ a. rw r (i.consumed (counted 0 x.value) rest t.1);
        }
    go (got x rest) p (refused n) q = got-refused (sym (there x rest p).1 ∙ q)
    go (refused n) p (got y rest') q = got-refused (sym (back y rest' q) ∙ p)
    go (refused n) p (refused k) q = record {
      same = λ u. ((λ g. accepted-refused (sym g.accepted)), (λ g. accepted-refused (sym g.accepted)));
      skipped = λ a. accepted-refused (sym a);
      consumed = λ a. accepted-refused (sym a);
    }

-- DEMAND 3
pub demand3_call : (t : ℕ) (m : Message) (os : List ℕ) (first end : ℕ) → message_of t ≡ Some m → good_window (length os) first end ≡ true → Demand3Call t m os first end
demand3_call t m os first end k w = record {
  inside = λ us c h os' first' end' w' e.
      rw (call_is t k 1 os first end refl w, call_is t k 0 os' first' end' refl w', e)
      (skips-to m bs c us first first' (d.inside us c h));
  exists = λ us c h. packed c (short us c h);
  uncut = λ us c h more. rw (call_is t k 0 os first end refl w) (refused_none first (length bs) (read_message m false bs) ((d.inside us c h).refuses more));
  outside = λ h. (
    rw (call_is t k 1 os first end refl w) (refused_none first (length bs) (read_message m true bs) (d.outside h).0),
    rw (call_is t k 0 os first end refl w) (refused_none first (length bs) (read_message m false bs) (d.outside h).1),
  );
}
  where
    bs : Bits
    bs = window_of os first end

    d : Demand3 identifier_of content (format_of m) bs
    d = demand3 identifier_of content (format_of m) (messages_regular m) bs

    short : (us : List Piece) (c : Bits) → walk_over m bs ≡ stays us c → length c ≤ 8 * octets_most
    short us c h =
        let q = both (leb (length os) octets_most) _ (rw (window-is (length os) first end) at w) in
        let few : length os ≤ octets_most = leb-true _ _ q.0 in
        let l : length bs ≡ min (end - first) (8 * length os - first) = length-window os (record { at = first; end = end }) in
        let t = (d.inside us c h).together in
        omega arith
