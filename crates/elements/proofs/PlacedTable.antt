-- The opening of an element, a slot, unlisted elements and generic slots at a cursor.
use Prim.Native.Nat.{ℕ, zero, suc, ◌+◌, ◌≤◌, ◌<◌, ◌^◌}
use Rattle.std.proofs.Math.Numerals.{add-one}
use native.Mathlib.Omega.{arith}
use Rattle.std.specs.Prelude.{◌≡◌, refl, Bool, true, false, cond, List, [], ◌∷◌, length, set, take, drop, leb, eqb}
use Rattle.std.specs.Prelude.{nat_eq}
use Rattle.std.specs.Option.{option_eq}
use Rattle.std.proofs.Common.{sym, ◌∙◌, ap, length-drop, eq-eqb, eqb-true, ne_eqb}
use Rattle.std.specs.Prelude.{Option, None, Some}
use Rattle.bits.specs.PduParseError.{buffer_ended}
use Rattle.bits.specs.Bits.{Bits, number}
use Rattle.bits.specs.Reader.{Answer, got, refused, Reader, then, ◌>>=◌, field, pass, optional, Tail}
use Rattle.bits.specs.ReaderLaws.{zero_one, then-then, then_same, local·rules, bind_tail, split-then, got-refused, field-got, field_lt}
use Rattle.bits.specs.Placed.{window, Placed, placed, halted, at}
use Rattle.bits.specs.PlacedLaws.{Gives, told, told-not, gives-not, step, stop, done}
use Rattle.bits.specs.PlacedTimes.{alike}
use Rattle.bits.specs.declared.bitbuffer.Cursor.{Cursor}
use Rattle.elements.specs.Numbers.{flag_width}
use Rattle.elements.specs.Table.{identifier_width, length_width, Look, outside, ends, opens, look, Header, header, closing}
use Rattle.elements.specs.Table.{used_of, whole, Piece, piece, onward, pieces, counted, is_listed, slot, slot_at, skip}
use Rattle.elements.proofs.NumbersLaws.{never}
use Rattle.elements.proofs.TableLaws.{look_tail, closing-local, two_slots, Halts, at_end, at-stop, pieces_unfold, pieces-halts, pieces-got, stands_shrinks, slot_tail, skip_tail, skip-again}
use Rattle.elements.specs.Kinds.{Element, identifier_of, content}
use Rattle.elements.proofs.KindsLaws.{content-local}
use Rattle.elements.specs.Rows.{follows_at, element_follows, sized, skipping, generic_row, generic_in, generic_slot, generics, slots_in}
use Rattle.elements.specs.Answers.{opening}
use Rattle.elements.specs.Fronts.{slot_front}
use Rattle.elements.specs.declared.typed_pdu_fields.Generic.{Generic}
use Rattle.elements.specs.declared.typed_pdu_fields.Row.{Row}
use Rattle.elements.specs.declared.typed_pdu_fields.Slots.{Slots}
use Rattle.bits.specs.declared.pdu_parse_error.PduParseErr.{PduParseErr}

-- ## the look and the opening agree

field-refused : (w : ℕ) (bs : Bits) {n : PduParseErr} → field w bs ≡ refused n → n ≡ buffer_ended
unfolding field
field-refused w bs {n} e = go (leb w (length bs)) e
  where
    go : (b : Bool) → cond b (got (number (take w bs)) (drop w bs)) (refused buffer_ended) ≡ refused n → n ≡ buffer_ended
    go true e = got-refused e
    go false e = cc

pub opening_tail : Tail opening
opening_tail = search local·rules

abbrev headed : ℕ → ℕ → Header
headed i n = record { identifier = i; size = n }

-- what the look sees where the opening gives an identifier or none
abbrev looking : Option ℕ → Look
looking None = ends
looking (Some i) = opens i

-- what the opening of bs tells, with rest behind it
record Opened (bs : Bits) (o : Option ℕ) (rest : Bits) : Type 0 where
  looks : look bs ≡ looking o
  heads : (i : ℕ) → o ≡ Some i → header bs ≡ (field length_width >>= λ n. got (headed i n)) rest
  less : length rest < length bs
  closes : o ≡ None → closing bs ≡ got tt rest

opened : (bs : Bits) {o : Option ℕ} {rest : Bits} → opening bs ≡ got o rest → Opened bs o rest
unfolding look header closing
opened bs {o} {rest} e = split-then (field flag_width bs) _ e (λ m mid p q. go m mid p (field_lt flag_width bs p) q)
  where
    shorter : (m : ℕ) (mid : Bits) → field flag_width bs ≡ got m mid → length mid < length bs
    shorter m mid p = let g = field-got flag_width bs p in omega (arith, g.enough, ap length g.left, length-drop flag_width bs)

    go : (m : ℕ) (mid : Bits) → field flag_width bs ≡ got m mid → m < 2 ^ flag_width → optional Some None (eqb m 1) (field identifier_width) mid ≡ got o rest → Opened bs o rest
    go zero mid p l q =
        let h : None ≡ o = cc in
        let s : mid ≡ rest = cc in
        rw (← h, ← s) (record {
          looks = rw p;
          heads = λ i t. zero_one (cc);
          less = shorter zero mid p;
          closes = λ t. rw p;
        })
    go (suc zero) mid p l q = split-then (field identifier_width mid) _ q (λ i end p' q'.
        let h : Some i ≡ o = cc in
        let s : end ≡ rest = cc in
        let g = field-got identifier_width mid p' in
        rw (← h, ← s) (record {
          looks = rw p (rw p');
          heads = λ j t. let same : i ≡ j = cc in rw p (rw (p', same));
          less = omega (arith, shorter 1 mid p, g.enough, ap length g.left, length-drop identifier_width mid);
          closes = λ t. zero_one (cc);
        }))
    go (suc (suc m)) mid p l q = absurd (omega arith)

-- it is refused where the look sees nothing
opening-outside : (bs : Bits) {n : PduParseErr} → opening bs ≡ refused n → (look bs ≡ outside) × (n ≡ buffer_ended)
unfolding look
opening-outside bs {n} e = first (field flag_width bs) refl e
  where
    second : (mid : Bits) (x : Answer ℕ) → field identifier_width mid ≡ x → then x (λ i. got (Some i)) ≡ refused n → (x ≡ refused n) × (n ≡ buffer_ended)
    second mid (got i end) p e = got-refused e
    second mid (refused k) p e = let h : k ≡ n = cc in (ap refused h, sym h ∙ field-refused identifier_width mid p)

    go : (m : ℕ) (mid : Bits) → field flag_width bs ≡ got m mid → m < 2 ^ flag_width → optional Some None (eqb m 1) (field identifier_width) mid ≡ refused n → (look bs ≡ outside) × (n ≡ buffer_ended)
    go zero mid p l q = got-refused q
    go (suc zero) mid p l q = let s = second mid (field identifier_width mid) refl q in (rw p (rw s.0), s.1)
    go (suc (suc m)) mid p l q = absurd (omega arith)

    first : (x : Answer ℕ) → field flag_width bs ≡ x → then x (λ p. optional Some None (eqb p 1) (field identifier_width)) ≡ refused n → (look bs ≡ outside) × (n ≡ buffer_ended)
    first (got m mid) p e = go m mid p (field_lt flag_width bs p) e
    first (refused k) p e = let h : k ≡ n = cc in (rw p, sym h ∙ field-refused flag_width bs p)

module _ {os : List ℕ} {c k : Cursor} {o : Option ℕ} (e : Gives opening os c (placed o k)) where
  -- what it tells at a cursor
  at-opening : Opened (window os c) o (window os k)
  at-opening = opened (window os c) (told opening_tail e).said

  -- what the look sees there
  opening-looks : look (window os c) ≡ looking o
  opening-looks = at-opening.looks

  -- the place moves, and less is left
  opening_on : (c.at < k.at) × (length (window os k) < length (window os c))
  opening_on = let t = told opening_tail e in let l = at-opening.less in (omega arith, l)

  -- a reader that goes on behind it
  behind : {B : Type 0} {r : Reader B} (r' : Reader B) {x : Placed B} → r (window os c) ≡ r' (window os k) → Gives r' os k x → Gives r os c x
  behind {r = r} r' q g = alike (opening >>= λ o. r') (q ∙ sym (then_is (told opening_tail e).said)) (step (λ o. r') e opening_tail g)
    where
      then_is : {y : Answer (Option ℕ)} → y ≡ got o (window os k) → then y (λ o. r') ≡ r' (window os k)
      then_is p = rw p

-- ## whether an element follows

module _ {os : List ℕ} {c : Cursor} where
  pub follows-unseen : {n : PduParseErr} → Gives opening os c (halted n) → Gives (element_follows true) os c (halted n)
  unfolding element_follows
  follows-unseen e = let l = opening-outside (window os c) (told-not e) in gives-not (rw (l.0, l.1))

  module _ {k : Cursor} {o : Option ℕ} (e : Gives opening os c (placed o k)) where
    pub follows-not : o ≡ None → Gives (element_follows true) os c (placed false k)
    unfolding element_follows
    follows-not p = behind e (got false) (rw (opening-looks e, p, (at-opening e).closes p)) done

    pub follows_there : {i : ℕ} → o ≡ Some i → Gives (element_follows true) os c (placed true c)
    unfolding element_follows
    follows_there p = alike (got true) (rw (opening-looks e, p)) done

pub follows_tail : (m : Bool) → Tail (element_follows m)
unfolding element_follows
follows_tail true = look_tail follows_at go
  where
    go : (l : Look) → Tail (follows_at l)
    go outside = search local·rules
    go ends = search (local·rules, closing-local)
    go (opens i) = search local·rules
follows_tail false = search local·rules

-- an identifier compared with another
pub same-as : (o : Option ℕ) {i : ℕ} → true ≡ option_eq nat_eq o (Some i) → o ≡ Some i
same-as None e = zero_one (cc)
same-as (Some j) {i} e = ap Some (eqb-true j i (sym e))

pub other-than : (o : Option ℕ) {i : ℕ} → false ≡ option_eq nat_eq o (Some i) → o ≡ Some i → ⊥
other-than None e p = zero_one (cc)
other-than (Some j) {i} e p = let h : j ≡ i = cc in never (e ∙ eq-eqb j i h)

-- ## one slot, and what follows it

module _ {S A B : Type 0} (identifier : S → ℕ) (content : S → ℕ → Reader A) (s : S) (f : Option A → Reader B) {os : List ℕ} {c : Cursor} where
  pub slot-outside : {n : PduParseErr} → Gives opening os c (halted n) → Gives (slot identifier content s >>= f) os c (halted n)
  slot-outside e = let l = opening-outside (window os c) (told-not e) in gives-not (rw (l.0, l.1))

  module _ {k : Cursor} {o : Option ℕ} (e : Gives opening os c (placed o k)) where
    -- M-bit 0, or another identifier
    pub slot-absent : (o ≡ Some (identifier s) → ⊥) → {x : Placed B} → Gives (f None) os c x → Gives (slot identifier content s >>= f) os c x
    slot-absent h g = alike (f None) (rw (opening-looks e) (go o h)) g
      where
        go : (o : Option ℕ) → (o ≡ Some (identifier s) → ⊥) → then (slot_at identifier content s (looking o) (window os c)) f ≡ f None (window os c)
        go None h = refl
        go (Some i) h = rw (ne_eqb i (identifier s) (λ q. h (ap Some q)))

    -- THE ELEMENT IS THERE: its content is read from its length on, and the rest behind it
    pub slot-there : o ≡ Some (identifier s) → {x : Placed B} → Gives (sized (content s) >>= λ a. f (Some a)) os k x
        → Gives (slot identifier content s >>= f) os c x
    slot-there h g =
        behind e (sized (content s) >>= λ a. f (Some a))
        (rw (opening-looks e) (rw h (rw (eq-eqb (identifier s) (identifier s) refl) (rw ((at-opening e).heads _ h) size)))) g
      where
        y : Answer ℕ
        y = field length_width (window os k)

        size : then (then (then (then y (λ n. got (headed (identifier s) n))) (λ h. content s h.size)) (λ a. got (Some a))) f
            ≡ then (then y (content s)) (λ a. f (Some a))
        size = ap (λ (z : Answer A). then (then z (λ a. got (Some a))) f) (then-then y _ _) ∙ then-then (then y (content s)) _ _

-- a reader, with nothing behind it
slot_front_tail : (i : ℕ) → Tail (slot_front i)
unfolding slot_front
slot_front_tail i = slot_tail (λ i. i) (λ i n. got n) (λ j n. search local·rules) i

-- THE SLOT IN TWO PARTS: its front, and the content behind it
module _ {S A B : Type 0} (identifier : S → ℕ) (content : S → ℕ → Reader A) (s : S) (f : Option A → Reader B) where
  abbrev behind_front : Option ℕ → Reader B
  behind_front None = f None
  behind_front (Some n) = content s n >>= λ a. f (Some a)

  slot-parted : (bs : Bits) → (slot identifier content s >>= f) bs ≡ (slot_front (identifier s) >>= behind_front) bs
  unfolding slot_front
  slot-parted bs =
      two_slots identifier content s (λ i. i) (λ i n. got n) (identifier s) refl (λ r q. then (r bs) f ≡ then (q bs) behind_front)
      refl refl (look bs) (λ l. there (header bs))
    where
      there : (y : Answer Header) → then (then (then y (λ h. content s h.size)) (λ a. got (Some a))) f
          ≡ then (then (then y (λ h. got h.size)) (λ n. got (Some n))) behind_front
      there (got h rest) = then-then (content s h.size rest) _ _
      there (refused n) = refl

  module _ {os : List ℕ} {c : Cursor} where
    pub front-outside : {n : PduParseErr} → Gives (slot_front (identifier s)) os c (halted n) → Gives (slot identifier content s >>= f) os c (halted n)
    front-outside e = alike (slot_front (identifier s) >>= behind_front) (slot-parted _) (stop _ e)

    pub front-absent : {k : Cursor} → Gives (slot_front (identifier s)) os c (placed None k) → {x : Placed B} → Gives (f None) os k x
        → Gives (slot identifier content s >>= f) os c x
    front-absent e g = alike (slot_front (identifier s) >>= behind_front) (slot-parted _) (step _ e (slot_front_tail (identifier s)) g)

    pub front-there : {n : ℕ} {k : Cursor} → Gives (slot_front (identifier s)) os c (placed (Some n) k) → {x : Placed B} → Gives (content s n >>= λ a. f (Some a)) os k x
        → Gives (slot identifier content s >>= f) os c x
    front-there e g = alike (slot_front (identifier s) >>= behind_front) (slot-parted _) (step _ e (slot_front_tail (identifier s)) g)

pub alone : {A : Type 0} {r : Reader A} {os : List ℕ} {c : Cursor} {x : Placed A} → Gives (r >>= got) os c x → Gives r os c x
alone {A} {r} g = alike (r >>= got) (sym (ends-there (r (window _ _)))) g
  where
    ends-there : (y : Answer A) → then y got ≡ y
    ends-there (got a rest) = refl
    ends-there (refused n) = refl

-- a content's value made into another in one step or in two
pub sized-made : {A B C : Type 0} (r : ℕ → Reader A) (f : A → B) (g : B → C) (bs : Bits)
    → (sized (λ n. r n >>= λ a. got (f a)) >>= λ b. got (g b)) bs ≡ sized (λ n. r n >>= λ a. got (g (f a))) bs
sized-made r f g bs = then-then (field length_width bs) _ _ ∙ then_same (field length_width bs) (λ n rest. then-then (r n rest) _ _)

-- ## unlisted elements that are skipped

-- an element behind its identifier
abbrev pub body : Reader Unit
body = sized pass

pub body_tail : Tail body
body_tail = search local·rules

-- it moves the place, and leaves less
pub body-on : {os : List ℕ} {c k j : Cursor} {o : Option ℕ} → Gives opening os c (placed o k) → Gives body os k (placed tt j)
    → (c.at < j.at) × (length (window os j) < length (window os c))
body-on e g = let (a, l) = opening_on e in let t = told body_tail g in (omega arith, omega arith)

module _ (listed : ℕ → Bool) where
  -- n elements were passed: how many are, with those that stand here
  abbrev pub tally : ℕ → Reader ℕ
  tally n = pieces listed >>= λ ps. got (n + length ps)

  pub tally-start : (bs : Bits) → (pieces listed >>= λ ps. got (length ps)) bs ≡ tally 0 bs
  tally-start bs = then_same (pieces listed bs) (λ ps rest. let h : 0 + length ps ≡ length ps = omega arith in rw h)

  module _ (n : ℕ) {os : List ℕ} {c : Cursor} where
    pub tally-outside : {m : PduParseErr} → Gives opening os c (halted m) → Gives (tally n) os c (halted m)
    tally-outside e =
        let l = opening-outside (window os c) (told-not e) in
        gives-not (rw (pieces_unfold listed (window os c)) (rw (l.0, l.1)))

    halts : Halts listed (look (window os c)) → Gives (tally n) os c (placed n c)
    halts h =
        let all : n + 0 ≡ n = omega arith in
        alike (got n) (rw (pieces-halts listed (window os c) h) (rw all)) done

    module _ {k : Cursor} {o : Option ℕ} (e : Gives opening os c (placed o k)) where
      -- they end before M-bit 0 and before a listed identifier
      pub tally-ends : o ≡ None → Gives (tally n) os c (placed n c)
      tally-ends p = halts (at_end (rw p at (opening-looks e)))

      pub tally-listed : {i : ℕ} → o ≡ Some i → listed i ≡ true → Gives (tally n) os c (placed n c)
      tally-listed {i} p t = halts (at-stop i (rw p at (opening-looks e)) t)

      -- ONE MORE
      pub tally-on : {i : ℕ} → o ≡ Some i → listed i ≡ false → {x : Placed ℕ} → Gives (body >>= λ z. tally (n + 1)) os k x → Gives (tally n) os c x
      unfolding whole piece
      tally-on {i} p t g =
          behind e (body >>= λ z. tally (n + 1))
          (rw (pieces_unfold listed (window os c)) (rw (opening-looks e) (rw p (rw t (rw ((at-opening e).heads _ p) (size (field length_width (window os k)))))))) g
        where
          piece_of : ℕ → Bits → Piece
          piece_of i rest = record { identifier = i; bits = used_of (window os c) rest }

          more : (p : Piece) (y : Answer (List Piece)) → then (then y (λ ps. got (p ∷ ps))) (λ ps. got (n + length ps)) ≡ then y (λ ps. got (n + 1 + length ps))
          more p (got ps rest) = let h : n + suc (length ps) ≡ n + 1 + length ps = omega arith in rw h
          more p (refused m) = refl

          passes : (i : ℕ) (y : Answer Unit)
              → then (onward (then (then (then y (λ z. got i)) (λ i rest. got (piece_of i rest) rest)) (λ p. got (Some p))) (pieces listed)) (λ ps. got (n + length ps))
              ≡ then y (λ z. tally (n + 1))
          passes i (got z rest) = more (piece_of i rest) (pieces listed rest)
          passes i (refused m) = refl

          size : (y : Answer ℕ)
              → then (onward (then (then (then (then y (λ n. got (headed i n))) (λ h. pass h.size >>= λ z. got h.identifier)) (λ i rest. got (piece_of i rest) rest)) (λ p. got (Some p))) (pieces listed)) (λ ps. got (n + length ps))
              ≡ then (then y pass) (λ z. tally (n + 1))
          size (got m rest) = passes i (pass m rest)
          size (refused m) = refl

  -- each element passed is a bit at least
  pieces-most : (ps : List Piece) (bs rest : Bits) → pieces listed bs ≡ got ps rest → length ps + length rest ≤ length bs
  pieces-most [] bs rest e = let h = (pieces-got listed bs e).1 in omega (arith, ap length h)
  pieces-most (p ∷ ps) bs rest e = let m = pieces-got listed bs e in omega (arith, pieces-most ps m.mid rest m.others, stands_shrinks m.stands)

  pub skip_fewer : (b : Bool) (bs : Bits) {m : ℕ} {rest : Bits} → skip listed b bs ≡ got m rest → m + length rest ≤ length bs
  skip_fewer true bs {m} {rest} e = split-then (pieces listed bs) _ e (λ ps mid p q.
      let all : length ps ≡ m = cc in
      let same : mid ≡ rest = cc in
      omega (arith, pieces-most ps bs rest (rw same at p)))
  skip_fewer false bs {m} {rest} e =
      let nothing : 0 ≡ m = cc in
      let same : bs ≡ rest = cc in
      omega (arith, ap length same)

  pub skip-most : (b : Bool) {os : List ℕ} {c k : Cursor} {m : ℕ} → Gives (skip listed b) os c (placed m k) → m + c.at ≤ k.at
  skip-most b {os} {c} {k} {m} e =
      let t = told (skip_tail listed b) e in
      omega (arith, skip_fewer b (window os c) t.said, t.used)

-- ## generic slots, one at a turn

-- a slot, whose value the code holds as `out` makes it
pub held_tail : {A : Type 0} (s : Row) (out : Option Element → A) → Tail (slot identifier_of content s >>= λ o. got (out o))
held_tail s out = bind_tail (slot identifier_of content s) _ (slot_tail identifier_of content content-local s) (λ o. search local·rules)

pub generic_slot_tail : (r : Row) → Tail (generic_slot r)
unfolding generic_slot
generic_slot_tail r = held_tail (generic_row r) (generic_in r)

module _ (table : List Row) (b : Bool) where
  -- slots, with their values put into the array from i on
  abbrev pub filled : List Generic → ℕ → List Row → Reader Slots
  filled gs i rs = generics table rs b >>= λ x. got (slots_in gs i x)

  -- the slots that are left, where n elements were skipped before them
  abbrev pub resumed : List Generic → ℕ → ℕ → List Row → Reader Slots
  resumed gs i n rs = generics table rs b >>= λ x. got (slots_in gs i (counted (n + x.skipped) x.value))

  pub skipping_tail : Tail (skipping table b)
  skipping_tail = skip_tail (is_listed identifier_of table) b

  -- behind the elements that were skipped none is
  pub skipped_again : {os : List ℕ} {c j : Cursor} {m : ℕ} → Gives (skipping table b) os c (placed m j) → Gives (skipping table b) os j (placed 0 j)
  skipped_again {os} {c} e = alike (got 0) (skip-again (is_listed identifier_of table) b (window os c) (told skipping_tail e).said) done

  module _ (gs : List Generic) (i n : ℕ) (r : Row) (rs : List Row) where
    -- one slot, whose value goes into the array, and the others
    abbrev turn : Reader Slots
    turn = skipping table b >>= λ m. generic_slot r >>= λ g. resumed (set gs i g) (i + 1) (n + m) rs

    turn_is : (bs : Bits) → resumed gs i n (r ∷ rs) bs ≡ turn bs
    unfolding generics
    turn_is bs =
        then-then (skipping table b bs) _ _
        ∙ then_same (skipping table b bs) (λ m mid.
        then-then (generic_slot r mid) _ _
        ∙ then_same (generic_slot r mid) (λ g rest.
        then-then (generics table rs b rest) _ _
        ∙ then_same (generics table rs b rest) (λ x end. let h : n + (m + x.skipped) ≡ n + m + x.skipped = omega arith in rw (h, add-one i))))

  module _ (gs : List Generic) (i n : ℕ) {os : List ℕ} {c : Cursor} where
    pub resumed_end : {rs : List Row} → rs ≡ [] → Gives (resumed gs i n rs) os c (placed (record { skipped = n; generics = gs }) c)
    unfolding generics
    resumed_end q = let h : n + 0 ≡ n = omega arith in rw q (alike (got (slots_in gs i (counted n []))) (rw h) done)

    module _ {r : Row} {rs all : List Row} (q : all ≡ r ∷ rs) where
      turns : {x : Placed Slots} → Gives (turn gs i n r rs) os c x → Gives (resumed gs i n all) os c x
      turns g = rw q (alike (turn gs i n r rs) (turn_is gs i n r rs (window os c)) g)

      pub resumed_unskipped : {k : PduParseErr} → Gives (skipping table b) os c (halted k) → Gives (resumed gs i n all) os c (halted k)
      resumed_unskipped e = turns (stop _ e)

      module _ {m : ℕ} {j : Cursor} (e : Gives (skipping table b) os c (placed m j)) where
        pub resumed_broken : {k : PduParseErr} → Gives (generic_slot r) os j (halted k) → Gives (resumed gs i n all) os c (halted k)
        resumed_broken f = turns (step _ e skipping_tail (stop _ f))

        pub resumed-on : {g : Generic} {k : Cursor} → Gives (generic_slot r) os j (placed g k)
            → at (resumed gs i n all) os c ≡ at (resumed (set gs i g) (i + 1) (n + m) rs) os k
        resumed-on f = (turns (step _ e skipping_tail (step _ f (generic_slot_tail r) (record { eq = refl })))).eq

        -- what was skipped is counted, and the place is behind it
        pub resumed_skipped : at (resumed gs i n all) os c ≡ at (resumed gs i (n + m) all) os j
        resumed_skipped =
            let z : n + m + 0 ≡ n + m = omega arith in
            let g : Gives (turn gs i (n + m) r rs) os j (at (generic_slot r >>= λ g. resumed (set gs i g) (i + 1) (n + m) rs) os j)
            = step _ (skipped_again e) skipping_tail (rw z (record { eq = refl })) in
            let others : Gives (resumed gs i (n + m) all) os j (at (generic_slot r >>= λ g. resumed (set gs i g) (i + 1) (n + m) rs) os j)
            = rw q (alike (turn gs i (n + m) r rs) (turn_is gs i (n + m) r rs (window os j)) g) in
            (turns (step _ e skipping_tail (record { eq = refl }))).eq
            ∙ sym others.eq
