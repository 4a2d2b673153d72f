-- A table whose slots are generic but for one: it is read in two parts, with that slot between them.
use Rattle.std.specs.Prelude.{ℕ, ◌+◌, ◌≤◌, ◌≡◌, Bool, true, false}
use native.Mathlib.Omega.{arith}
use Rattle.std.proofs.Math.Path.{sym, ap}
use Rattle.std.proofs.Common.{◌∙◌, length-append}
use Rattle.std.specs.Prelude.{Option}
use mathlib.Core.List.{List, [], ◌∷◌, ◌++◌, map, append-nil}
use Rattle.std.proofs.Math.ListN.{length}
use Rattle.std.proofs.lemmas.List.Edits.{sets}
use Rattle.bits.specs.Bits.{Bits}
use Rattle.bits.specs.Reader.{got, Reader, then, ◌>>=◌, Tail}
use Rattle.bits.specs.ReaderLaws.{then-then, then_same, then-both, local·rules, local_tail, bind_tail, split-then}
use Rattle.bits.specs.Placed.{window, Placed, placed, halted}
use Rattle.bits.specs.PlacedLaws.{Gives, told, step, stop, done}
use Rattle.bits.specs.PlacedTimes.{alike}
use Rattle.bits.specs.declared.bitbuffer.Cursor.{Cursor}
use Rattle.elements.specs.Table.{Counted, counted, closing, is_listed, slot, scan}
use Rattle.elements.proofs.TableLaws.{closing-local}
use Rattle.elements.specs.Kinds.{Element, identifier_of, content}
use Rattle.elements.specs.Rows.{generic_row, generic_in, generic_slot, generics, skipping, table_end, no_generics, slots_in, behind_part, part}
use Rattle.elements.proofs.PlacedOptional.{made_of, made-not, ends}
use Rattle.elements.proofs.PlacedTable.{skip_fewer, skipping_tail, held_tail, generic_slot_tail, filled}
use Rattle.elements.specs.declared.typed_pdu_fields.Generic.{Generic}
use Rattle.elements.specs.declared.typed_pdu_fields.Row.{Row}
use Rattle.elements.specs.declared.typed_pdu_fields.Slots.{Slots}
use Rattle.bits.specs.declared.pdu_parse_error.PduParseErr.{PduParseErr}

-- what generic slots hold, and the same as the code holds it
pub data Each : List Row → List (Option Element) → List Generic → Type 0 where
  no_more : Each [] [] []
  one_more : {r : Row} {rs : List Row} {v : Option Element} {vs : List (Option Element)} {gs : List Generic}
      → Each rs vs gs → Each (r ∷ rs) (v ∷ vs) (generic_in r v ∷ gs)

-- the parts of a table, and what is made of its slots
pub record Parts (A X : Type 0) : Type 0 where
  -- the generic slots before the slot that is not generic, that slot, and those behind it
  pub before : List Row
  pub own : Row
  pub behind : List Row
  -- where the array holds the values of those behind it
  pub from : ℕ
  -- the own slot's value as the code holds it
  pub out : Option Element → A
  -- what is made of the slots' values; and the same of what the code holds
  pub made : List (Option Element) → X
  pub held : A → List Generic → List Generic → X
  pub same : (vs ws : List (Option Element)) (v : Option Element) (gs hs : List Generic) → Each before vs gs → Each behind ws hs
      → made (vs ++ (v ∷ ws)) ≡ held (out v) (sets no_generics 0 gs) (sets no_generics from hs)

module _ (table : List Row) (b : Bool) where
  abbrev scanned : List Row → Reader (Counted (List (Option Element)))
  scanned = scan identifier_of content (is_listed identifier_of table) b

  -- generic slots at the front of a table: what follows them needs their values only as the code holds them
  abbrev Front : Type 0 → List Row → List Row → Type 0
  Front X rs ts =
      (fin : Counted (List (Option Element)) → Reader X) (more : Counted (List Generic) → Reader X)
      → ((x : Counted (List Generic)) (vs : List (Option Element)) (m : Bits) → Each rs vs x.value
      → then (scanned ts m) (λ y. fin (counted (x.skipped + y.skipped) (vs ++ y.value))) ≡ more x m)
      → (bs : Bits) → then (scanned (map generic_row rs ++ ts) bs) fin ≡ then (generics table rs b bs) more

  front : {X : Type 0} (rs : List Row) (ts : List Row) → Front X rs ts
  unfolding scan generics generic_slot
  front [] ts fin more h bs =
      then_same (scanned ts bs) (λ y rest. let z : 0 + y.skipped ≡ y.skipped = omega arith in rw z) ∙ h (counted 0 []) [] bs no_more
  front (r ∷ rs) ts fin more h bs =
      then-both (skipping table b bs) _ _ _ _ (λ n mid.
      then-both (slot identifier_of content (generic_row r) mid) _ _ _ _ (λ v rest.
      then-then (scanned (map generic_row rs ++ ts) rest) _ fin
      ∙ front rs ts (λ x. fin (counted (n + x.skipped) (v ∷ x.value))) (λ x. more (counted (n + x.skipped) (generic_in r v ∷ x.value))) (λ x vs m e.
      then_same (scanned ts m) (λ y rest. let z : n + (x.skipped + y.skipped) ≡ n + x.skipped + y.skipped = omega arith in rw z)
      ∙ h (counted (n + x.skipped) (generic_in r v ∷ x.value)) (v ∷ vs) m (one_more e)) rest
      ∙ sym (then-then (generics table rs b rest) _ more))
      ∙ ap (λ z. then z more) (sym (then-then (slot identifier_of content (generic_row r) mid) _ _)))

  -- ## what the parts leave, and how much they can skip

  pub behind_tail : (last : Bool) → Tail (behind_part last table b)
  behind_tail true = bind_tail (skipping table b) _ (skipping_tail table b) (λ n. bind_tail closing _ (local_tail closing-local) (λ z. search local·rules))
  behind_tail false = skipping_tail table b

  pub generics_tail : (rs : List Row) → Tail (generics table rs b)
  unfolding generics
  generics_tail [] = search local·rules
  generics_tail (r ∷ rs) =
      bind_tail (skipping table b) _ (skipping_tail table b) (λ n. bind_tail (generic_slot r) _ (generic_slot_tail r) (λ g. bind_tail (generics table rs b) _ (generics_tail rs) (λ x. search local·rules)))

  module _ (rs : List Row) (last : Bool) (from : ℕ) where
    pub part_tail : Tail (part table rs last b from)
    unfolding part
    part_tail = bind_tail (generics table rs b) _ (generics_tail rs) (λ x. bind_tail (behind_part last table b) _ (behind_tail last) (λ n. search local·rules))

  shorter : {A : Type 0} {r : Reader A} → Tail r → {bs : Bits} {a : A} {rest : Bits} → r bs ≡ got a rest → length rest ≤ length bs
  shorter t {bs} {a} {rest} e = let u = t.at bs a rest e in omega (arith, ap length u.1, length-append u.0 rest)

  -- each element skipped is a bit at least
  record Bounded {A : Type 0} (skipped : A → ℕ) (r : Reader A) : Type 0 where
    most : (bs : Bits) (a : A) (rest : Bits) → r bs ≡ got a rest → skipped a + length rest ≤ length bs

  -- by the place
  at_most : {A : Type 0} {skipped : A → ℕ} {r : Reader A} → Bounded skipped r → Tail r → {os : List ℕ} {c k : Cursor} {a : A}
      → Gives r os c (placed a k) → skipped a + c.at ≤ k.at
  at_most f tail {os} {c} {k} {a} e = let t = told tail e in omega (arith, f.most (window os c) a (window os k) t.said, t.used)

  skipping_bounded : Bounded (λ n. n) (skipping table b)
  skipping_bounded = record { most = λ bs n rest e. skip_fewer (is_listed identifier_of table) b bs e }

  behind_bounded : (last : Bool) → Bounded (λ n. n) (behind_part last table b)
  behind_bounded true = record {
    most = λ bs n rest e. split-then (skipping table b bs) _ e (λ m m₁ p q. split-then (closing m₁) _ q (λ z m₂ p₂ q₂.
        let same : m ≡ n = cc in
        let left : m₂ ≡ rest = cc in
        omega (arith, skipping_bounded.most bs m m₁ p, shorter (local_tail closing-local) p₂, ap length left)));
  }
  behind_bounded false = skipping_bounded

  generics_bounded : (rs : List Row) → Bounded (λ (x : Counted (List Generic)). x.skipped) (generics table rs b)
  unfolding generics
  generics_bounded [] = record {
    most = λ bs x rest e.
        let None : x.skipped ≡ 0 = cc in
        let left : bs ≡ rest = cc in
        omega (arith, ap length left);
  }
  generics_bounded (r ∷ rs) = record {
    most = λ bs x rest e. split-then (skipping table b bs) _ e (λ n m₁ p₁ q₁. split-then (generic_slot r m₁) _ q₁ (λ g m₂ p₂ q₂.
        split-then (generics table rs b m₂) _ q₂ (λ y m₃ p₃ q₃.
        let all : n + y.skipped ≡ x.skipped = cc in
        let left : m₃ ≡ rest = cc in
        omega (arith, skipping_bounded.most bs n m₁ p₁, shorter (generic_slot_tail r) p₂, (generics_bounded rs).most m₂ y m₃ p₃, ap length left))));
  }

  pub behind-most : (last : Bool) {os : List ℕ} {c k : Cursor} {n : ℕ} → Gives (behind_part last table b) os c (placed n k) → n + c.at ≤ k.at
  behind-most last = at_most (behind_bounded last) (behind_tail last)

  module _ (rs : List Row) (last : Bool) (from : ℕ) where
    pub part-most : {os : List ℕ} {c k : Cursor} {s : Slots} → Gives (part table rs last b from) os c (placed s k) → s.skipped + c.at ≤ k.at
    unfolding part
    part-most = at_most {skipped = λ (s : Slots). s.skipped} (record {
      most = λ bs s rest e. split-then (generics table rs b bs) _ e (λ x m₁ p₁ q₁. split-then (behind_part last table b m₁) _ q₁ (λ n m₂ p₂ q₂.
          let all : x.skipped + n ≡ s.skipped = cc in
          let left : m₂ ≡ rest = cc in
          omega (arith, (generics_bounded rs).most bs x m₁ p₁, (behind_bounded last).most m₁ n m₂ p₂, ap length left)));
    }) (part_tail rs last from)

  -- a part, by its slots and by what is behind them
  module _ (rs : List Row) (last : Bool) (from : ℕ) {os : List ℕ} {c : Cursor} where
    pub no_slots_lem : {n : PduParseErr} → Gives (filled table b no_generics from rs) os c (halted n) → Gives (part table rs last b from) os c (halted n)
    unfolding part
    no_slots_lem e = stop _ (made-not (slots_in no_generics from) (generics table rs b) e)

    module _ {s : Slots} {k : Cursor} (e : Gives (filled table b no_generics from rs) os c (placed s k)) where
      behind_slots : {y : Placed Slots} → ((x : Counted (List Generic)) → slots_in no_generics from x ≡ s
          → Gives (behind_part last table b >>= λ n. got (slots_in no_generics from (counted (x.skipped + n) x.value))) os k y) → Gives (part table rs last b from) os c y
      unfolding part
      behind_slots h = made_of (slots_in no_generics from) (generics table rs b) e (generics_tail rs) (λ x p g. step _ g (generics_tail rs) (h x p))

      pub no_behind : {n : PduParseErr} → Gives (behind_part last table b) os k (halted n) → Gives (part table rs last b from) os c (halted n)
      no_behind g = behind_slots (λ x p. stop _ g)

      pub part-read : {n : ℕ} {j : Cursor} → Gives (behind_part last table b) os k (placed n j)
          → Gives (part table rs last b from) os c (placed (record { skipped = s.skipped + n; generics = s.generics }) j)
      part-read {n} g = behind_slots (λ x p. step _ g (behind_tail last) (ends (ap (λ (s : Slots). record { skipped = s.skipped + n; generics = s.generics }) p)))

  -- a part without slots: nothing stands in the array
  module _ (last : Bool) (from : ℕ) {os : List ℕ} {c : Cursor} where
    pub empty-part : {n : ℕ} {k : Cursor} → Gives (behind_part last table b) os c (placed n k)
        → Gives (part table [] last b from) os c (placed (record { skipped = n; generics = no_generics }) k)
    unfolding part generics
    empty-part {n} {k} e =
        let g : Gives (part table [] last b from) os c (placed (record { skipped = 0 + n; generics = no_generics }) k) = step _ e (behind_tail last) done in
        let z : 0 + n ≡ n = omega arith in
        rw z at g

    pub empty-part-refused : {n : PduParseErr} → Gives (behind_part last table b) os c (halted n) → Gives (part table [] last b from) os c (halted n)
    unfolding part generics
    empty-part-refused e = stop _ e

  module _ {A X : Type 0} (p : Parts A X) where
    -- the table read whole
    abbrev whole : Reader (Counted X)
    whole bs = then (scanned (map generic_row p.before ++ (p.own ∷ map generic_row p.behind)) bs) (λ x. got (counted x.skipped (p.made x.value)))

    -- the slot between the parts, as the code holds it
    abbrev between : Reader A
    between = slot identifier_of content p.own >>= λ o. got (p.out o)

    -- what is made of the two parts and the slot between them
    abbrev joined : Slots → A → Slots → Reader (Counted X)
    joined f a g = got (counted (f.skipped + g.skipped) (p.held a f.generics g.generics))

    abbrev behind_front_lem : Slots → Reader (Counted X)
    behind_front_lem f = between >>= λ a. part table p.behind true b p.from >>= joined f a

    abbrev in_parts : Reader (Counted X)
    in_parts = part table p.before false b 0 >>= behind_front_lem

    -- the same of the slots' values, where n elements were skipped and the values vs read before
    abbrev onto : ℕ → List (Option Element) → Counted (List (Option Element)) → Reader (Counted X)
    onto n vs y = got (counted (n + y.skipped) (p.made (vs ++ y.value)))

    -- the first part, where n elements were skipped behind its slots; the second, where m were
    abbrev front-part : Counted (List Generic) → ℕ → Slots
    front-part x n = slots_in no_generics 0 (counted (x.skipped + n) x.value)

    abbrev back-part : Counted (List Generic) → ℕ → Slots
    back-part y m = slots_in no_generics p.from (counted (y.skipped + m) y.value)

    -- THE PARTS read one after the other are the table read whole
    in_parts_lem : (bs : Bits) → whole bs ≡ in_parts bs
    unfolding scan part
    in_parts_lem bs =
        front p.before (p.own ∷ map generic_row p.behind) _ (λ x. (skipping table b >>= λ n. got (front-part x n)) >>= behind_front_lem) (λ x vs m e.
        then-both (skipping table b m) _ _ _ _ (λ n mid.
        then-both (slot identifier_of content p.own mid) _ _ _ _ (λ v rest.
        then-then (scanned (map generic_row p.behind) rest) _ (onto x.skipped vs)
        ∙ (rw (append-nil (map generic_row p.behind)) at (front p.behind [] (λ z. onto x.skipped vs (counted (n + z.skipped) (v ∷ z.value)))
        (λ y. (table_end table b >>= λ k. got (back-part y k)) >>= joined (front-part x n) (p.out v)) (λ y ws m f.
        then-both (skipping table b m) _ _ _ _ (λ k mid.
        then-both (closing mid) _ _ _ _ (λ u rest.
        let z : x.skipped + (n + (y.skipped + k)) ≡ x.skipped + n + (y.skipped + k) = omega arith in
        rw (z, append-nil ws, p.same vs ws v x.value y.value e f))
        ∙ ap (λ z. then z (joined (front-part x n) (p.out v))) (sym (then-then (closing mid) _ _)))
        ∙ ap (λ z. then z (joined (front-part x n) (p.out v))) (sym (then-then (skipping table b m) _ _))) rest))
        ∙ sym (then-then (generics table p.behind b rest) _ (joined (front-part x n) (p.out v)))))) bs
        ∙ sym (then-then (generics table p.before b bs) _ behind_front_lem)

    -- ## at a cursor

    module _ {os : List ℕ} {c : Cursor} where
      parted : {x : Placed (Counted X)} → Gives in_parts os c x → Gives whole os c x
      parted g = alike in_parts (in_parts_lem (window os c)) g

      pub no_front_lem : {n : PduParseErr} → Gives (part table p.before false b 0) os c (halted n) → Gives whole os c (halted n)
      no_front_lem e = parted (stop _ e)

      module _ {f : Slots} {c₁ : Cursor} (e₁ : Gives (part table p.before false b 0) os c (placed f c₁)) where
        from-slot : {x : Placed (Counted X)} → Gives (behind_front_lem f) os c₁ x → Gives whole os c x
        from-slot h = parted (step _ e₁ (part_tail p.before false 0) h)

        pub no_slot : {n : PduParseErr} → Gives between os c₁ (halted n) → Gives whole os c (halted n)
        no_slot e = from-slot (stop _ e)

        module _ {a : A} {c₂ : Cursor} (e₂ : Gives between os c₁ (placed a c₂)) where
          from_back : {x : Placed (Counted X)} → Gives (part table p.behind true b p.from >>= joined f a) os c₂ x → Gives whole os c x
          from_back h = from-slot (step _ e₂ (held_tail p.own p.out) h)

          pub no_back : {n : PduParseErr} → Gives (part table p.behind true b p.from) os c₂ (halted n) → Gives whole os c (halted n)
          no_back e = from_back (stop _ e)

          module _ {g : Slots} {c₃ : Cursor} (e₃ : Gives (part table p.behind true b p.from) os c₂ (placed g c₃)) where
            -- THE TABLE IS READ; each element skipped is a bit at least
            pub record AllRead : Type 0 where
              pub is : Gives whole os c (placed (counted (f.skipped + g.skipped) (p.held a f.generics g.generics)) c₃)
              pub most : f.skipped + g.skipped + c.at ≤ c₃.at

            pub all_read : AllRead
            all_read = record {
              is = from_back (step _ e₃ (part_tail p.behind true p.from) done);
              most =
                  omega (arith, part-most p.before false 0 e₁, (told (held_tail p.own p.out) e₂).on, part-most p.behind true p.from e₃);
            }
