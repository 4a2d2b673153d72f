-- A part of a table by its elements: the slots before the one that an element opens hold nothing.
use Rattle.std.specs.Prelude.{ℕ, zero, suc, ◌+◌, ◌≤◌, ◌<◌, ◌≡◌, slice_index_or, length, Bool, true, false, cond, not, List, [], ◌∷◌, map, set, drop, replicate}
use Rattle.std.proofs.lemmas.List.Edits.{sets}
use Rattle.std.specs.List.{position_or_len}
use Rattle.std.specs.Prelude.{Option, None}
use Rattle.std.proofs.Common.{arith, sym, ap, ◌∙◌, refl, drop-drop, length-drop}
use Rattle.std.proofs.lemmas.Bool.{not-false}
use Rattle.std.proofs.lemmas.List.{get_or-drop}
use Rattle.std.proofs.lemmas.List.Sums.{prefix_len_stops}
use Rattle.bits.specs.PduParseError.{buffer_ended}
use Rattle.bits.specs.Bits.{Bits}
use Rattle.bits.specs.Reader.{Answer, got, refused, Reader, then, ◌>>=◌}
use Rattle.bits.specs.Placed.{window, Placed, placed, halted, at}
use Rattle.bits.specs.PlacedLaws.{Gives, told, step, stop, done}
use Rattle.bits.specs.PlacedTimes.{set-behind, alike}
use Rattle.bits.specs.declared.bitbuffer.Cursor.{Cursor}
use Rattle.elements.specs.Table.{Look, outside, ends, opens, look, closing, counted, is_listed}
use Rattle.elements.proofs.TableLaws.{at_end, skip-halts, pieces_unfold}
use Rattle.elements.specs.Kinds.{identifier_of, content, stored}
use Rattle.elements.specs.declared.typed_pdu_fields.Kind.TheVariants as K
use Rattle.elements.specs.Rows.{from_type3, from_type4, skipping, is_type4, generic_row, generic_in, generic_content, generic_slot, generics, part, follows_at, element_follows, no_generic, no_generics, opened_by}
use Rattle.elements.specs.Answers.{opening}
use Rattle.elements.proofs.PlacedTable.{follows_tail, same-as, other-than, slot-outside, slot-absent, slot-there, generic_slot_tail, resumed, resumed_broken, resumed-on, resumed_skipped, skipped_again}
use Rattle.elements.proofs.Tables.{no_row, next-row}
use Rattle.bits.specs.declared.pdu_parse_error.PduParseErr.{PduParseErr}
use Rattle.elements.specs.declared.typed_pdu_fields.Generic.{Generic}
use Rattle.elements.specs.declared.typed_pdu_fields.Row.{Row}
use Rattle.elements.specs.declared.typed_pdu_fields.Slots.{Slots}

-- an absent value, put where one is
put-again : {A : Type 0} (z : A) (xs : List A) (i m : ℕ) → drop i xs ≡ drop i (replicate m z) → set xs i z ≡ xs
put-again z [] i m q = refl
put-again z (x ∷ xs) zero zero q = cc
put-again z (x ∷ xs) zero (suc m) q = cc
put-again z (x ∷ xs) (suc i) zero q = ap (λ ys. x ∷ ys) (put-again z xs i zero (q ∙ sym (none-left i)))
  where
    none-left : (i : ℕ) → drop i (replicate zero z) ≡ []
    none-left zero = refl
    none-left (suc i) = refl
put-again z (x ∷ xs) (suc i) (suc m) q = ap (λ ys. x ∷ ys) (put-again z xs i m q)

module _ {os : List ℕ} {c k : Cursor} {o : Option ℕ} (e : Gives opening os c (placed o k)) (r : Row) where
  absent : Gives (got (generic_in r None)) os c (placed no_generic c)
  absent = go (is_type4 r.kind)
    where
      go : (b : Bool) → Gives (got (cond b (from_type4 (stored K.Type4 None)) (from_type3 (stored K.Type3 None)))) os c (placed no_generic c)
      go true = done
      go false = done

  -- a slot that the element does not open
  slot-passed : opened_by o r ≡ false → Gives (generic_slot r) os c (placed no_generic c)
  unfolding generic_slot
  slot-passed t = slot-absent identifier_of content (generic_row r) _ e (other-than _ (sym t)) absent

  -- and the one that it opens
  slot-opened : opened_by o r ≡ true → {x : Placed Generic} → Gives (generic_content r) os k x → Gives (generic_slot r) os c x
  unfolding generic_slot generic_content
  slot-opened t g = slot-there identifier_of content (generic_row r) _ e (same-as _ (sym t)) g

module _ (table : List Row) (b : Bool) {os : List ℕ} {c k : Cursor} {o : Option ℕ} (e : Gives opening os c (placed o k))
    (again : Gives (skipping table b) os c (placed 0 c)) where
  -- the slots before the one that the element opens
  slots-passed : (rs : List Row) (gs : List Generic) (i n : ℕ) → drop i gs ≡ drop i no_generics
      → let p = position_or_len (opened_by o) rs in at (resumed table b gs i n rs) os c ≡ at (resumed table b gs (i + p) n (drop p rs)) os c
  slots-passed [] gs i n q = let z : i + 0 ≡ i = omega arith in rw z refl
  slots-passed (r ∷ rs) gs i n q = go (opened_by o r) refl (slots-passed rs gs (i + 1) n behind)
    where
      same : set gs i no_generic ≡ gs
      same = put-again no_generic gs i 8 q

      behind : drop (i + 1) gs ≡ drop (i + 1) no_generics
      behind = rw same at (set-behind no_generic gs no_generics i no_generic q)

      p : ℕ
      p = position_or_len (opened_by o) rs

      go : (t : Bool) → opened_by o r ≡ t → at (resumed table b gs (i + 1) n rs) os c ≡ at (resumed table b gs (i + 1 + p) n (drop p rs)) os c
          → let m = cond (not t) (1 + p) 0 in at (resumed table b gs i n (r ∷ rs)) os c ≡ at (resumed table b gs (i + m) n (drop m (r ∷ rs))) os c
      go true t others = let z : i + 0 ≡ i = omega arith in rw z refl
      go false t others =
          let n_is : n + 0 ≡ n = omega arith in
          let on : at (resumed table b gs i n (r ∷ rs)) os c ≡ at (resumed table b (set gs i no_generic) (i + 1) (n + 0) rs) os c
          = resumed-on table b gs i n refl again (slot-passed e r t) in
          let i_is : i + 1 + p ≡ i + (1 + p) = omega arith in
          let one_more : 1 + p ≡ suc p = omega arith in
          rw (same, n_is) at on ∙ rw (← i_is, one_more) others

-- a slot where nothing is seen
pub slot_unseen : {os : List ℕ} {c : Cursor} {x : PduParseErr} → Gives opening os c (halted x) → (r : Row) → Gives (generic_slot r) os c (halted x)
unfolding generic_slot
slot_unseen e r = slot-outside identifier_of content (generic_row r) _ e

-- ## an element of a part

module _ (table : List Row) (b : Bool) where
  -- THE LOOK AT AN ELEMENT, behind the m unlisted ones that stand from c on: at slot i, p slots before its own; nothing stands in the array from there on
  pub record Looked (os : List ℕ) (c j k : Cursor) (m : ℕ) (o : Option ℕ) (slots : List Row) (gs : List Generic) (from i p : ℕ) : Type 0 where
    pub skipped : Gives (skipping table b) os c (placed m j)
    pub seen : Gives opening os j (placed o k)
    pub some : i < length slots
    pub before : p ≡ position_or_len (opened_by o) (drop i slots)
    pub empty : drop (from + i) gs ≡ drop (from + i) no_generics

  module _ {os : List ℕ} {c j k : Cursor} {m : ℕ} {o : Option ℕ} {slots : List Row} {gs : List Generic} {from i p : ℕ} (x : Looked os c j k m o slots gs from i p) where
    places : from + i + p ≡ from + (i + p)
    places = omega arith

    -- the slots before its own are passed
    pub reached : (n : ℕ) → at (resumed table b gs (from + i) n (drop i slots)) os c ≡ at (resumed table b gs (from + (i + p)) (n + m) (drop (i + p) slots)) os j
    reached n =
        resumed_skipped table b gs (from + i) n (next-row slots i x.some) x.skipped
        ∙ rw (← x.before, places, drop-drop p i slots) at (slots-passed table b x.seen (skipped_again table b x.skipped) (drop i slots) gs (from + i) (n + m) x.empty)

    pub empty-behind : drop (from + (i + p)) gs ≡ drop (from + (i + p)) no_generics
    empty-behind =
        let d : drop p (drop (from + i) gs) ≡ drop p (drop (from + i) no_generics) = ap (drop p) x.empty in
        rw (drop-drop p (from + i) gs, drop-drop p (from + i) no_generics, places) at d

    module _ (there : i + p < length slots) where
      abbrev own : Row
      own = slice_index_or slots (i + p) no_row

      opens_own : opened_by o own ≡ true
      opens_own =
          let fits : position_or_len (opened_by o) (drop i slots) < length (drop i slots) = rw (← x.before) (omega (arith, length-drop i slots)) in
          not-false (opened_by o own) (rw (← x.before, get_or-drop i slots p no_row) at (prefix_len_stops (λ r. not (opened_by o r)) (drop i slots) no_row fits))

      own-slot : {y : Placed Generic} → Gives (generic_content own) os k y → Gives (generic_slot own) os j y
      own-slot = slot-opened x.seen own opens_own

      pub own-refused : {e : PduParseErr} → Gives (generic_content own) os k (halted e) → (n : ℕ) → Gives (resumed table b gs (from + i) n (drop i slots)) os c (halted e)
      own-refused g n = record { eq = reached n ∙ (resumed_broken table b gs (from + (i + p)) (n + m) (next-row slots (i + p) there) (skipped_again table b x.skipped) (own-slot g)).eq }

      module _ {g : Generic} {l : Cursor} (f : Gives (generic_content own) os k (placed g l)) where
        next-place : from + (i + p) + 1 ≡ from + (i + p + 1)
        next-place = omega arith

        -- its value goes into its place
        pub own-read : (n : ℕ) → at (resumed table b gs (from + i) n (drop i slots)) os c
            ≡ at (resumed table b (set gs (from + (i + p)) g) (from + (i + p + 1)) (n + m) (drop (i + p + 1) slots)) os l
        own-read n =
            let all : n + m + 0 ≡ n + m = omega arith in
            reached n ∙ rw (all, next-place) at (resumed-on table b gs (from + (i + p)) (n + m) (next-row slots (i + p) there) (skipped_again table b x.skipped) (own-slot f))

        pub own-on : j.at ≤ l.at
        own-on = (told (generic_slot_tail own) (own-slot f)).on

        pub empty-on : drop (from + (i + p + 1)) (set gs (from + (i + p)) g) ≡ drop (from + (i + p + 1)) no_generics
        empty-on = rw next-place at (set-behind no_generic gs no_generics (from + (i + p)) g empty-behind)

-- ## the last part, before the closing M-bit

abbrev pub no_slots : Slots
no_slots = record { skipped = 0; generics = no_generics }

absent-put : (rs : List Row) (from : ℕ) → sets no_generics from (map (λ r. no_generic) rs) ≡ no_generics
absent-put [] from = refl
absent-put (r ∷ rs) from =
    ap (λ gs. sets gs (suc from) (map (λ r. no_generic) rs)) (put-again no_generic no_generics from 8 refl) ∙ absent-put rs (suc from)

absent_in : (r : Row) → generic_in r None ≡ no_generic
absent_in r = go (is_type4 r.kind)
  where
    go : (four : Bool) → cond four no_generic no_generic ≡ no_generic
    go true = refl
    go false = refl

module _ (table : List Row) (b : Bool) where
  module _ (bs : Bits) (l : look bs ≡ ends) where
    none-skipped : skipping table b bs ≡ got 0 bs
    none-skipped = skip-halts (is_listed identifier_of table) b bs (at_end l)

    ended-slots : (rs : List Row) → generics table rs b bs ≡ got (counted 0 (map (λ r. no_generic) rs)) bs
    unfolding generics generic_slot
    ended-slots [] = refl
    ended-slots (r ∷ rs) = rw (none-skipped, l, absent_in r, ended-slots rs)

    -- no slot holds anything, and the M-bit is read
    ended : (rs : List Row) (from : ℕ) → part table rs true b from bs ≡ then (closing bs) (λ z. got no_slots)
    unfolding part
    ended rs from = rw (ended-slots rs, none-skipped, absent-put rs from) (go (closing bs))
      where
        go : (x : Answer Unit) → then (then x (λ z. got 0)) (λ n. got (record { skipped = 0 + n; generics = no_generics })) ≡ then x (λ z. got no_slots)
        go (got z rest) = refl
        go (refused e) = refl

  module _ (r : Row) (rs : List Row) (from : ℕ) where
    abbrev last_part : Reader Slots
    last_part = part table (r ∷ rs) true b from

    abbrev read_if : Bool → Reader Slots
    read_if true = last_part
    read_if false = got no_slots

    -- ONE LOOK BEFORE A PART that ends its table: whether an element follows
    look-before : (bs : Bits) → last_part bs ≡ (element_follows true >>= read_if) bs
    unfolding element_follows part generics generic_slot
    look-before bs = go (look bs) refl
      where
        go : (l : Look) → look bs ≡ l → last_part bs ≡ then (follows_at l bs) read_if
        go outside l = unseen b l
          where
            unseen : (b : Bool) → look bs ≡ outside → part table (r ∷ rs) true b from bs ≡ refused buffer_ended
            unseen true l = rw (pieces_unfold (is_listed identifier_of table) bs) (rw l)
            unseen false l = rw l
        go ends l = ended bs l (r ∷ rs) from ∙ behind (closing bs)
          where
            behind : (x : Answer Unit) → then x (λ z. got no_slots) ≡ then (then x (λ z. got false)) read_if
            behind (got z rest) = refl
            behind (refused e) = refl
        go (opens i) l = refl

    module _ {os : List ℕ} {c : Cursor} where
      looked-before : {x : Placed Slots} → Gives (element_follows true >>= read_if) os c x → Gives last_part os c x
      looked-before g = alike (element_follows true >>= read_if) (look-before (window os c)) g

      pub part-unseen : {e : PduParseErr} → Gives (element_follows true) os c (halted e) → Gives last_part os c (halted e)
      part-unseen e = looked-before (stop _ e)

      pub part-ended : {m : Bool} {k : Cursor} → Gives (element_follows true) os c (placed m k) → m ≡ false → Gives last_part os c (placed no_slots k)
      part-ended e n = looked-before (step _ e (follows_tail true) (rw n done))
