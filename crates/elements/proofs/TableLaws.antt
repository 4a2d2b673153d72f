-- Laws of the look, of one element, of elements one after the other, and of the two readings of a table.
use Prim.Native.Nat.{ℕ, zero, suc, ◌+◌, ◌-◌, ◌<◌}
use Rattle.std.proofs.Common.{arith, sym, ap, subst, ◌∙◌, length-append, take_at, eq-eqb, eqb-true}
use Rattle.std.specs.Prelude.{◌≡◌, Bool, true, cond, eqb}
use Rattle.std.proofs.Math.Path.{refl}
use Rattle.std.proofs.Math.Bool.{false, or-true}
use Rattle.std.specs.Prelude.{Option, None, Some}
use mathlib.Core.List.{List, [], ◌∷◌, ◌++◌, map, append-nil}
use Rattle.std.proofs.Math.ListN.{length}
use Rattle.bits.specs.PduParseError.{buffer_ended, invalid_trailing_mbit_value}
use Rattle.bits.specs.Bits.{Bits}
use Rattle.bits.specs.Reader.{Answer, got, refused, Reader, then, ◌>>=◌, field, pass, unless, Used, Local, Tail}
use Rattle.bits.specs.ReaderLaws.{zero_one, refused-got, then-then, split-then, local-more, local·rules, field-local, got-local, refused-local, bind_local, bind_tail}
use Rattle.elements.specs.Table.{mbit_width, identifier_width, length_width, Look, outside, ends, opens, seen, looked, look, Header, header, closing, used_of, whole, Piece, piece, next_if, next_at_lem, next, onward, many_of, many, pieces, Counted, counted, element, slot_if, slot_at, slot, skip, is_listed, scan}
use Rattle.bits.specs.declared.pdu_parse_error.PduParseErr.{PduParseErr}

ends-outside : {P : Type 0} → ends ≡ outside → P
ends-outside e = zero_one (cc)

opens-outside : {P : Type 0} {i : ℕ} → opens i ≡ outside → P
opens-outside e = zero_one (cc)

ends-opens : {P : Type 0} {i : ℕ} → ends ≡ opens i → P
ends-opens e = zero_one (cc)

-- ## the look

look-nil : look [] ≡ outside
unfolding look field
look-nil = refl

-- what is seen is seen whatever follows
look-more : (u zs : Bits) → (look u ≡ outside → ⊥) → look (u ++ zs) ≡ look u
unfolding look
look-more u zs h = first (field mbit_width u) refl h
  where
    second : (r : Bits) (x : Answer ℕ) → field identifier_width r ≡ x → (seen x ≡ outside → ⊥) → seen (field identifier_width (r ++ zs)) ≡ seen x
    second r (got i rest) p k = rw (local-more (field-local identifier_width) r zs p)
    second r (refused n) p k = absurd (k refl)

    mbit : (b : Bool) (r : Bits) → (cond b ends (seen (field identifier_width r)) ≡ outside → ⊥)
        → cond b ends (seen (field identifier_width (r ++ zs))) ≡ cond b ends (seen (field identifier_width r))
    mbit true r k = refl
    mbit false r k = second r (field identifier_width r) refl k

    first : (x : Answer ℕ) → field mbit_width u ≡ x → (looked x ≡ outside → ⊥) → looked (field mbit_width (u ++ zs)) ≡ looked x
    first (got m r) p k = rw (local-more (field-local mbit_width) u zs p) (mbit (eqb m 0) r k)
    first (refused n) p k = absurd (k refl)

-- SEES: a local reader that gives a value only where the look is not outside
record Sees {A : Type 0} (r : Reader A) : Type 0 where
  local : Local r
  inside : (bs : Bits) (a : A) (rest : Bits) → r bs ≡ got a rest → look bs ≡ outside → ⊥

-- the look then sees no further than the reader's own bits
look-used : {A : Type 0} {r : Reader A} → Sees r → {bs : Bits} {a : A} {rest : Bits} (v : Used r bs a rest) (zs : Bits) → look (v.used ++ zs) ≡ look bs
look-used s {bs} {a} {rest} v zs =
    let u : Bits = v.used in
    let h : look u ≡ outside → ⊥ = s.inside u a [] (rw append-nil at (v.any [])) in
    look-more u zs h ∙ sym (look-more u rest h) ∙ ap look (sym v.split)

-- a reader that goes by the look
look_sees : {A : Type 0} (r : Look → Reader A) → ((l : Look) → Sees (r l)) → Sees (λ bs. r (look bs) bs)
look_sees r sr = record {
  local = record {
    at = λ bs a rest e.
        let s = sr (look bs) in
        let v = s.local.at bs a rest e in
        record { used = v.used; split = v.split; any = λ zs. rw (look-used s v zs) (v.any zs) };
  };
  inside = λ bs. (sr (look bs)).inside bs;
}

pub look_tail : {A : Type 0} (r : Look → Reader A) → ((l : Look) → Tail (r l)) → Tail (λ bs. r (look bs) bs)
look_tail r tr = record { at = λ bs. (tr (look bs)).at bs }

bind_sees : {A B : Type 0} (r : Reader A) (f : A → Reader B) → Sees r → ((a : A) → Local (f a)) → Sees (r >>= f)
bind_sees r f s l = record {
  local = bind_local r f s.local l;
  inside = λ bs b rest e. split-then (r bs) f e (λ a mid p q. s.inside bs a mid p);
}

refused_sees : {A : Type 0} (n : PduParseErr) → Sees {A = A} (λ bs. refused n)
refused_sees n = record { local = refused-local n; inside = λ bs a rest e. refused-got e }

-- ## by what the look sees

-- TWO SLOTS with one identifier: what holds outside, of absent elements and, where the identifier is seen, of those that are there, holds of both
pub two_slots : {S A T B : Type 0} (identifier : S → ℕ) (content : S → ℕ → Reader A) (s : S) (identifier' : T → ℕ) (content' : T → ℕ → Reader B) (t : T)
    → identifier s ≡ identifier' t → (R : Reader (Option A) → Reader (Option B) → Type 0)
    → R (λ bs. refused buffer_ended) (λ bs. refused buffer_ended) → R (got None) (got None) → (l : Look)
    → (l ≡ opens (identifier s) → R (slot_if identifier content s true) (slot_if identifier' content' t true))
    → R (slot_at identifier content s l) (slot_at identifier' content' t l)
two_slots identifier content s identifier' content' t same R out absent outside there = out
two_slots identifier content s identifier' content' t same R out absent ends there = absent
two_slots identifier content s identifier' content' t same R out absent (opens j) there =
    subst (λ (i : ℕ). R (slot_if identifier content s (eqb j (identifier s))) (slot_if identifier' content' t (eqb j i))) same (test (eqb j (identifier s)) refl)
  where
    test : (b : Bool) → eqb j (identifier s) ≡ b → R (slot_if identifier content s b) (slot_if identifier' content' t b)
    test true e = there (ap opens (eqb-true j (identifier s) e))
    test false e = absent

-- one slot
pub slot_cases : {S A : Type 0} (identifier : S → ℕ) (content : S → ℕ → Reader A) (s : S) (P : Reader (Option A) → Type 0)
    → P (λ bs. refused buffer_ended) → P (got None) → (l : Look) → (l ≡ opens (identifier s) → P (slot_if identifier content s true)) → P (slot_at identifier content s l)
slot_cases identifier content s P = two_slots identifier content s identifier content s refl (λ r q. P r)

module _ (stop : ℕ → Bool) where
  -- HALTS: M-bit 0, or an identifier at which to stop
  pub data Halts (l : Look) : Type 0 where
    at_end : l ≡ ends → Halts l
    at-stop : (i : ℕ) → l ≡ opens i → stop i ≡ true → Halts l

  -- the next element
  pub next_cases : (P : Reader (Option Piece) → Type 0) → P (λ bs. refused buffer_ended) → (l : Look) → (Halts l → P (got None))
      → ((i : ℕ) → l ≡ opens i → stop i ≡ false → P (next_if false)) → P (next_at_lem stop l)
  next_cases P out outside halts on = out
  next_cases P out ends halts on = halts (at_end refl)
  next_cases P out (opens i) halts on = test (stop i) refl
    where
      test : (b : Bool) → stop i ≡ b → P (next_if b)
      test true t = halts (at-stop i refl t)
      test false t = on i refl t

-- ## one element

pub header-local : Local header
unfolding header
header-local = search local·rules

-- what the look sees at a header: its identifier, or an M-bit of 0
data AtHeader (i : ℕ) (l : Look) : Type 0 where
  zero_bit : l ≡ ends → AtHeader i l
  one_bit : l ≡ opens i → AtHeader i l

at-header : (bs : Bits) {h : Header} {rest : Bits} → header bs ≡ got h rest → AtHeader h.identifier (look bs)
unfolding look header
at-header bs {h} e =
    split-then (field mbit_width bs) _ e (λ m r₁ p₁ q₁.
    split-then (field identifier_width r₁) _ q₁ (λ i r₂ p₂ q₂.
    split-then (field length_width r₂) _ q₂ (λ n r₃ p₃ q₃.
    let k : ◌≡◌ {A = Header} (record { identifier = i; size = n }) h = cc in
    rw (p₁, ← k) (rw p₂ (mbit i (eqb m 0))))))
  where
    mbit : (i : ℕ) (b : Bool) → AtHeader i (cond b ends (opens i))
    mbit i true = zero_bit refl
    mbit i false = one_bit refl

header_sees : Sees header
header_sees = record { local = header-local; inside = λ bs h rest e. go (at-header bs e) }
  where
    go : {i : ℕ} {l : Look} → AtHeader i l → l ≡ outside → ⊥
    go (zero_bit p) q = ends-outside (sym p ∙ q)
    go (one_bit p) q = opens-outside (sym p ∙ q)

pub closing-local : Local closing
unfolding closing
closing-local = search local·rules

pub closing-ends : (bs : Bits) {z : Unit} {rest : Bits} → closing bs ≡ got z rest → look bs ≡ ends
unfolding closing look
closing-ends bs {z} {rest} e = split-then (field mbit_width bs) _ e (λ m r p q. rw p (mbit (eqb m 0) r q))
  where
    mbit : (b : Bool) (r : Bits) → unless b invalid_trailing_mbit_value r ≡ got z rest → cond b ends (seen (field identifier_width r)) ≡ ends
    mbit true r q = refl
    mbit false r q = refused-got q

pub closing-opens : (bs : Bits) {i : ℕ} → look bs ≡ opens i → closing bs ≡ refused invalid_trailing_mbit_value
unfolding closing look
closing-opens bs {i} l = first (field mbit_width bs) l
  where
    mbit : (b : Bool) (r : Bits) → cond b ends (seen (field identifier_width r)) ≡ opens i → unless b invalid_trailing_mbit_value r ≡ refused invalid_trailing_mbit_value
    mbit true r l = ends-opens l
    mbit false r l = refl

    first : (x : Answer ℕ) → looked x ≡ opens i → then x (λ m. unless (eqb m 0) invalid_trailing_mbit_value) ≡ refused invalid_trailing_mbit_value
    first (got m r) l = mbit (eqb m 0) r l
    first (refused n) l = opens-outside (sym l)

closing_sees : Sees closing
closing_sees = record { local = closing-local; inside = λ bs z rest e h. ends-outside (sym (closing-ends bs e) ∙ h) }

whole_sees : Sees whole
unfolding whole
whole_sees = bind_sees header _ header_sees (λ h. search local·rules)

pub whole-local : Local whole
whole-local = whole_sees.local

-- it is the identifier that the look sees
pub whole-identifier : (bs : Bits) {i j : ℕ} {rest : Bits} → look bs ≡ opens i → whole bs ≡ got j rest → i ≡ j
unfolding whole
whole-identifier bs {i} {j} l e =
    split-then (header bs) _ e (λ h r₁ p₁ q₁.
    split-then (pass h.size r₁) _ q₁ (λ z r₂ p₂ q₂. go (cc) (at-header bs p₁)))
  where
    go : {k : ℕ} → k ≡ j → AtHeader k (look bs) → i ≡ j
    go h (zero_bit p) = ends-opens (sym p ∙ l)
    go h (one_bit p) = cc

-- ELEMENT: p's bits are a whole element with p's identifier, whatever follows them
pub record Element (p : Piece) : Type 0 where
  pub looks : (zs : Bits) → look (p.bits ++ zs) ≡ opens p.identifier
  pub passed : (zs : Bits) → whole (p.bits ++ zs) ≡ got p.identifier zs

-- p stands at the front of bs, and mid behind it
pub record Stands (bs : Bits) (p : Piece) (mid : Bits) : Type 0 where
  pub split : bs ≡ p.bits ++ mid
  pub element : Element p

pub stands-looks : {bs : Bits} {p : Piece} {mid : Bits} → Stands bs p mid → look bs ≡ opens p.identifier
stands-looks {mid = mid} s = ap look s.split ∙ s.element.looks mid

pub stands_shrinks : {bs : Bits} {p : Piece} {mid : Bits} → Stands bs p mid → length mid < length bs
stands_shrinks {bs} {p} {mid} s = go p.bits s.split (s.element.looks [])
  where
    go : (u : Bits) → bs ≡ u ++ mid → look (u ++ []) ≡ opens p.identifier → length mid < length bs
    go [] e l = opens-outside (sym l ∙ look-nil)
    go (b ∷ u) e l = omega (arith, ap length e, length-append u mid)

pub whole-stands : {bs : Bits} {i : ℕ} {mid : Bits} → look bs ≡ opens i → (v : Used whole bs i mid) → Stands bs (record { identifier = i; bits = v.used }) mid
whole-stands l v = record { split = v.split; element = record { looks = λ zs. look-used whole_sees v zs ∙ l; passed = v.any } }

pub used_of_lem : (u rest : Bits) {bs : Bits} → bs ≡ u ++ rest → used_of bs rest ≡ u
used_of_lem u rest e = rw e (take_at u rest (length (u ++ rest) - length rest) (omega (arith, length-append u rest)))

piece-stands : (bs : Bits) {i : ℕ} {p : Piece} {mid : Bits} → look bs ≡ opens i → piece bs ≡ got p mid → Stands bs p mid × (i ≡ p.identifier)
unfolding piece
piece-stands bs {i} {p} {mid} l e = split-then (whole bs) _ e (λ j m q k.
    let v = whole-local.at bs j m q in
    let w = used_of_lem v.used m v.split in
    let ij : i ≡ j = whole-identifier bs l q in
    let g : ◌≡◌ {A = Piece} (record { identifier = j; bits = v.used }) p = cc in
    let h : m ≡ mid = cc in
    rw (← g, ← h) (whole-stands (rw ij at l) v, ij))

piece_tail : Tail piece
unfolding piece
piece_tail = record {
  at = λ bs p rest e. split-then (whole bs) _ e (λ i mid q k.
      let h : mid ≡ rest = cc in
      let u = whole-local.at bs i mid q in
      (u.used, rw (← h) u.split));
}

-- ## elements one after the other

module _ {A : Type 0} (r : Reader (Option A)) where
  -- where each turn that gives something uses a bit
  module _ (shrinks : (bs : Bits) (a : A) (rest : Bits) → r bs ≡ got (Some a) rest → length rest < length bs) where
    enough : (m n : ℕ) (bs : Bits) → length bs < m → length bs < n → many_of m r bs ≡ many_of n r bs
    unfolding many_of
    enough zero n bs hm hn = absurd (omega arith)
    enough (suc m) zero bs hm hn = absurd (omega arith)
    enough (suc m) (suc n) bs hm hn = go (r bs) refl (enough m n)
      where
        go : (x : Answer (Option A)) → r bs ≡ x → ((rest : Bits) → length rest < m → length rest < n → many_of m r rest ≡ many_of n r rest)
            → onward x (many_of m r) ≡ onward x (many_of n r)
        go (got None rest) e ih = refl
        go (got (Some a) rest) e ih = let h = shrinks bs a rest e in rw (ih rest (omega arith) (omega arith))
        go (refused k) e ih = refl

    -- one turn, and then the others
    pub many_unfold : (bs : Bits) → many r bs ≡ onward (r bs) (many r)
    unfolding many many_of
    many_unfold bs = go (r bs) refl
      where
        go : (x : Answer (Option A)) → r bs ≡ x → onward x (many_of (length bs) r) ≡ onward x (λ rest. many_of (suc (length rest)) r rest)
        go (got None rest) e = refl
        go (got (Some a) rest) e = let h = shrinks bs a rest e in rw (enough (length bs) (suc (length rest)) rest (omega arith) (omega arith))
        go (refused k) e = refl

  many_of_tail : Tail r → (n : ℕ) → Tail (many_of n r)
  unfolding many_of
  many_of_tail t zero = search local·rules
  many_of_tail t (suc n) = record { at = λ bs xs rest e. go bs xs rest (r bs) refl e (many_of_tail t n) }
    where
      go : (bs : Bits) (xs : List A) (rest : Bits) (x : Answer (Option A)) → r bs ≡ x → onward x (many_of n r) ≡ got xs rest → Tail (many_of n r)
          → (used : Bits) × (bs ≡ used ++ rest)
      go bs xs rest (got None mid) p e ih = let h : mid ≡ rest = cc in rw h at (t.at bs None mid p)
      go bs xs rest (got (Some a) mid) p e ih =
          (bind_tail r (λ o. many_of n r >>= λ xs. got (a ∷ xs)) t (λ o. search (bind_tail, local·rules))).at bs xs rest (rw p e)
      go bs xs rest (refused k) p e ih = refused-got e

  many_tail : Tail r → Tail (many r)
  unfolding many
  many_tail t = record { at = λ bs. (many_of_tail t (suc (length bs))).at bs }

module _ (stop : ℕ → Bool) where
  abbrev NextGot : Bits → Option Piece → Bits → Type 0
  NextGot bs None rest = Halts stop (look bs) × (rest ≡ bs)
  NextGot bs (Some p) rest = Stands bs p rest × (stop p.identifier ≡ false)

  next-got : (bs : Bits) {o : Option Piece} {rest : Bits} → next stop bs ≡ got o rest → NextGot bs o rest
  next-got bs {o} {rest} =
      next_cases stop (λ r. r bs ≡ got o rest → NextGot bs o rest) (λ e. refused-got e) (look bs)
      (λ h e. let n : None ≡ o = cc in rw (← n) (h, cc))
      (λ i l t e. split-then (piece bs) _ e (λ p m x y.
      let n : Some p ≡ o = cc in
      let h : m ≡ rest = cc in
      let g = piece-stands bs l (rw h at x) in
      rw (← n) (g.0, rw (← g.1) t)))

  -- ONE TURN
  pub pieces_unfold : (bs : Bits) → pieces stop bs ≡ onward (next stop bs) (pieces stop)
  unfolding pieces
  pieces_unfold = many_unfold (next stop) (λ bs p rest e. stands_shrinks (next-got bs e).0)

  pub pieces-halts : (bs : Bits) → Halts stop (look bs) → pieces stop bs ≡ got [] bs
  pieces-halts bs (at_end l) = pieces_unfold bs ∙ rw l
  pieces-halts bs (at-stop i l t) = pieces_unfold bs ∙ rw l (rw t)

  -- nothing is skipped where they end
  pub skip-halts : (b : Bool) (bs : Bits) → Halts stop (look bs) → skip stop b bs ≡ got 0 bs
  skip-halts true bs h = rw (pieces-halts bs h)
  skip-halts false bs h = refl

  pub pieces-on : (bs : Bits) {p : Piece} {mid : Bits} → Stands bs p mid → stop p.identifier ≡ false → pieces stop bs ≡ then (pieces stop mid) (λ ps. got (p ∷ ps))
  unfolding piece
  pieces-on bs {p} {mid} s t =
      let e = s.element in
      rw s.split (pieces_unfold (p.bits ++ mid) ∙ rw (e.looks mid) (rw t (rw (e.passed mid) (rw (used_of_lem p.bits mid refl)))))

  -- and what it was, by what was got
  pub record More (bs : Bits) (p : Piece) (ps : List Piece) (rest : Bits) : Type 0 where
    pub mid : Bits
    pub stands : Stands bs p mid
    pub on : stop p.identifier ≡ false
    pub others : pieces stop mid ≡ got ps rest

  abbrev pub PiecesGot : Bits → List Piece → Bits → Type 0
  PiecesGot bs [] rest = Halts stop (look bs) × (rest ≡ bs)
  PiecesGot bs (p ∷ ps) rest = More bs p ps rest

  pub pieces-got : (bs : Bits) {ps : List Piece} {rest : Bits} → pieces stop bs ≡ got ps rest → PiecesGot bs ps rest
  pieces-got bs {ps} {rest} e = go (next stop bs) refl (rw (pieces_unfold bs) at e)
    where
      go : (x : Answer (Option Piece)) → next stop bs ≡ x → onward x (pieces stop) ≡ got ps rest → PiecesGot bs ps rest
      go (got None mid) q e =
          let n : [] ≡ ps = cc in
          let h : mid ≡ rest = cc in
          rw (← n) (next-got bs (rw h at q))
      go (got (Some p) mid) q e = split-then (pieces stop mid) _ e (λ qs m x y.
          let n : p ∷ qs ≡ ps = cc in
          let h : m ≡ rest = cc in
          let g = next-got bs q in
          rw (← n) (record { mid = mid; stands = g.0; on = g.1; others = rw h at x }))
      go (refused n) q e = refused-got e

  -- behind those that were passed none stands
  pieces-ended : (ps : List Piece) (bs rest : Bits) → pieces stop bs ≡ got ps rest → Halts stop (look rest)
  pieces-ended [] bs rest e = let g = pieces-got bs e in rw g.1 g.0
  pieces-ended (p ∷ ps) bs rest e = let m = pieces-got bs e in pieces-ended ps m.mid rest m.others

  pub skip-again : (b : Bool) (bs : Bits) {n : ℕ} {rest : Bits} → skip stop b bs ≡ got n rest → skip stop b rest ≡ got 0 rest
  skip-again true bs {n} {rest} e = split-then (pieces stop bs) _ e (λ ps mid p q.
      let same : mid ≡ rest = cc in
      skip-halts true rest (pieces-ended ps bs rest (rw same at p)))
  skip-again false bs e = refl

  pieces_tail : Tail (pieces stop)
  unfolding pieces
  pieces_tail =
      many_tail (next stop) (look_tail (next_at_lem stop) (λ l.
      next_cases stop Tail (search local·rules) l (λ h. search local·rules) (λ i e t. bind_tail piece _ piece_tail (λ p. search local·rules))))

  pub skip_tail : (b : Bool) → Tail (skip stop b)
  skip_tail true = bind_tail (pieces stop) _ pieces_tail (λ ps. search local·rules)
  skip_tail false = search local·rules

-- ## the two readings of a table

module _ {S : Type 0} (identifier : S → ℕ) where
  pub listed-first : (s : S) (ss : List S) → is_listed identifier (s ∷ ss) (identifier s) ≡ true
  unfolding is_listed
  listed-first s ss = rw (eq-eqb (identifier s) (identifier s) refl)

  pub listed_later : (s : S) (ss : List S) (i : ℕ) → is_listed identifier ss i ≡ true → is_listed identifier (s ∷ ss) i ≡ true
  unfolding is_listed
  listed_later s ss i h = rw h (or-true (eqb i (identifier s)))

module _ {S A : Type 0} (identifier : S → ℕ) (content : S → ℕ → Reader A) where
  -- the strict reading skips nothing
  pub scan-strict : (listed : ℕ → Bool) (ss : List S) (bs : Bits) {x : Counted (List (Option A))} {rest : Bits} → scan identifier content listed false ss bs ≡ got x rest → x.skipped ≡ 0
  unfolding scan
  scan-strict listed [] bs {x} e = split-then (closing bs) _ e (λ z r p q. let g : counted 0 [] ≡ x = cc in rw (← g))
  scan-strict listed (s ∷ ss) bs {x} e =
      split-then (slot identifier content s bs) _ e (λ a r p q.
      split-then (scan identifier content listed false ss r) _ q (λ y r' p' q'.
      let g : counted (0 + y.skipped) (a ∷ y.value) ≡ x = cc in
      rw (← g) (omega (arith, scan-strict listed ss r p'))))

  -- where nothing is seen the first question is refused
  pub scan-unseen : (listed : ℕ → Bool) (b : Bool) (s : S) (ss : List S) (bs : Bits) → look bs ≡ outside → scan identifier content listed b (s ∷ ss) bs ≡ refused buffer_ended
  unfolding scan
  scan-unseen listed true s ss bs l = rw (pieces_unfold listed bs) (rw l)
  scan-unseen listed false s ss bs l = rw l

  -- before an M-bit of 0 nothing is skipped, and no slot holds anything
  pub scan-empty : (listed : ℕ → Bool) (b : Bool) (ss : List S) (bs : Bits) → look bs ≡ ends
      → scan identifier content listed b ss bs ≡ then (closing bs) (λ z. got (counted 0 (map (λ s. None) ss)))
  unfolding scan
  scan-empty listed b ss bs l = go ss
    where
      skipped : skip listed b bs ≡ got 0 bs
      skipped = skip-halts listed b bs (at_end l)

      go : (ss : List S) → scan identifier content listed b ss bs ≡ then (closing bs) (λ z. got (counted 0 (map (λ s. None) ss)))
      go [] = rw skipped
      go (s ∷ ss) = rw (skipped, l, go ss) (then-then (closing bs) _ _)

-- ## what holds of each value that a content gives

module _ {S A : Type 0} (P : S → A → Type 0) where
  -- of a slot's value, if it is present
  abbrev pub InSlot : S → Option A → Type 0
  InSlot s None = Unit
  InSlot s (Some a) = P s a

  -- ALL SLOTS: as many values as slots, and P holds of each that is present
  pub data AllSlots : List S → List (Option A) → Type 0 where
    slots_end : AllSlots [] []
    one-slot : {s : S} {v : Option A} {ss : List S} {vs : List (Option A)} → InSlot s v → AllSlots ss vs → AllSlots (s ∷ ss) (v ∷ vs)

module _ {S A : Type 0} (identifier : S → ℕ) (content : S → ℕ → Reader A) {P : S → A → Type 0}
    (holds : (s : S) (n : ℕ) (bs : Bits) (a : A) (rest : Bits) → content s n bs ≡ got a rest → P s a) where
  slot-holds : (s : S) (bs : Bits) {o : Option A} {rest : Bits} → slot identifier content s bs ≡ got o rest → InSlot P s o
  slot-holds s bs {o} {rest} =
      slot_cases identifier content s (λ r. r bs ≡ got o rest → InSlot P s o) (λ e. refused-got e) (λ e. let n : None ≡ o = cc in rw (← n) tt) (look bs) (λ l e.
      split-then (element identifier content s bs) _ e (λ a r p q.
      split-then (header bs) _ p (λ h r' p' q'.
      let n : Some a ≡ o = cc in
      rw (← n) (holds s h.size r' a r q'))))

  -- IN BOTH READINGS it holds of each value of the table
  pub scan-all : (listed : ℕ → Bool) (b : Bool) (ss : List S) (bs : Bits) {x : Counted (List (Option A))} {rest : Bits}
      → scan identifier content listed b ss bs ≡ got x rest → AllSlots P ss x.value
  unfolding scan
  scan-all listed b [] bs {x} e =
      split-then (skip listed b bs) _ e (λ n r₁ p₁ q₁.
      split-then (closing r₁) _ q₁ (λ z r₂ p₂ q₂.
      let g : counted n [] ≡ x = cc in
      rw (← g) slots_end))
  scan-all listed b (s ∷ ss) bs {x} e =
      split-then (skip listed b bs) _ e (λ n r₁ p₁ q₁.
      split-then (slot identifier content s r₁) _ q₁ (λ v r₂ p₂ q₂.
      split-then (scan identifier content listed b ss r₂) _ q₂ (λ y r₃ p₃ q₃.
      let g : counted (n + y.skipped) (v ∷ y.value) ≡ x = cc in
      rw (← g) (one-slot (slot-holds s r₁ p₂) (scan-all listed b ss r₂ p₃)))))

module _ {S A : Type 0} (identifier : S → ℕ) (content : S → ℕ → Reader A) (local : (s : S) (n : ℕ) → Local (content s n)) where
  element_sees : (s : S) → Sees (element identifier content s)
  element_sees s = bind_sees header _ header_sees (λ h. local s h.size)

  pub element-local : (s : S) → Local (element identifier content s)
  element-local s = (element_sees s).local

  -- a slot looks further than it uses where its element is absent, but no further than what comes behind it
  slot_sees : {B : Type 0} (s : S) (f : Option A → Reader B) → ((o : Option A) → Sees (f o)) → Sees (slot identifier content s >>= f)
  slot_sees s f sf =
      look_sees (λ l. slot_at identifier content s l >>= f) (λ l.
      slot_cases identifier content s (λ r. Sees (r >>= f)) (refused_sees buffer_ended) (sf None) l (λ e.
      bind_sees (slot_if identifier content s true) f (bind_sees (element identifier content s) _ (element_sees s) (λ a. got-local (Some a))) (λ o. (sf o).local)))

  pub slot_tail : (s : S) → Tail (slot identifier content s)
  slot_tail s =
      look_tail (slot_at identifier content s) (λ l.
      slot_cases identifier content s Tail (search local·rules) (search local·rules) l (λ e. search (local·rules, element-local)))

  module _ (listed : ℕ → Bool) where
    -- BOTH READINGS leave an end of the bits
    pub scan_tail : (b : Bool) (ss : List S) → Tail (scan identifier content listed b ss)
    unfolding scan
    scan_tail b [] = bind_tail (skip listed b) _ (skip_tail listed b) (λ n. search (local·rules, closing-local))
    scan_tail b (s ∷ ss) =
        bind_tail (skip listed b) _ (skip_tail listed b) (λ n.
        bind_tail (slot identifier content s) _ (slot_tail s) (λ a.
        bind_tail (scan identifier content listed b ss) _ (scan_tail b ss) (λ x. search local·rules)))

    scan_sees : (ss : List S) → Sees (scan identifier content listed false ss)
    unfolding scan
    scan_sees [] = bind_sees closing _ closing_sees (λ z. got-local _)
    scan_sees (s ∷ ss) = slot_sees s _ (λ a. bind_sees (scan identifier content listed false ss) _ (scan_sees ss) (λ x. got-local _))

    -- THE STRICT READING IS LOCAL: it can stand inside an element
    pub scan-local : (ss : List S) → Local (scan identifier content listed false ss)
    scan-local ss = (scan_sees ss).local
