-- THE SKIPPING READING IS THE STRICT READING OF THE CUT BITS, for any table and any number of elements (demand 3, what it says of elements).
use Prim.Native.Nat.{ℕ, suc, ◌+◌}
use Rattle.std.proofs.Common.{zero-add, sym, ◌∙◌}
use native.Mathlib.Omega.{arith}
use Rattle.std.specs.Prelude.{◌≡◌, Bool, eqb}
use Rattle.std.proofs.Math.Path.{refl, ap}
use Rattle.std.proofs.Math.Bool.{true, false, cond}
use Rattle.std.specs.Prelude.{Option, None, Some}
use mathlib.Core.List.{List, [], ◌∷◌, ◌++◌}
use Rattle.std.proofs.Math.ListN.{length, length-append}
use Rattle.bits.specs.Bits.{Bits}
use Rattle.bits.specs.Reader.{Answer, got, refused, Reader, then, ◌>>=◌, Local}
use Rattle.bits.specs.ReaderLaws.{zero_one, refused-got, split-then, Agree, both, neither, agree, Passes}
use Rattle.elements.specs.Table.{Look, ends, look, header, closing, whole, Piece, pieces, walk, unlisted, cut, total, Counted, counted, element, slot_if, slot, skip, is_listed, scan}
use Rattle.elements.proofs.TableLaws.{slot_cases, closing-ends, closing-opens, whole-local, whole-identifier, whole-stands, Stands, stands-looks, Halts, at_end, at-stop, pieces-halts, pieces-on, More, pieces-got, listed-first, listed_later, element-local}
use Rattle.bits.specs.declared.pdu_parse_error.PduParseErr.{PduParseErr}

-- ALIKE: both answers give the same, the first with n skipped and the second with none; or both refuse (with any numbers)
pub data Alike {A : Type 0} (n : ℕ) (x y : Answer (Counted A)) : Type 0 where
  give : (v : A) (rest : Bits) → x ≡ got (counted n v) rest → y ≡ got (counted 0 v) rest → Alike n x y
  refuse : (j k : PduParseErr) → x ≡ refused j → y ≡ refused k → Alike n x y

-- ## the walk and the cut

walk_ends : (bs : Bits) → look bs ≡ ends → walk bs ≡ got [] bs
walk_ends bs l = pieces-halts (λ i. false) bs (at_end l)

walk-nil : (bs : Bits) {rest : Bits} → walk bs ≡ got [] rest → (look bs ≡ ends) × (rest ≡ bs)
walk-nil bs e = let (h, r) = pieces-got (λ i. false) bs e in (ended h, r)
  where
    ended : {l : Look} → Halts (λ i. false) l → l ≡ ends
    ended (at_end l) = l
    ended (at-stop i l t) = zero_one (cc)

walk-cons : (bs : Bits) {p : Piece} {ps : List Piece} {rest : Bits} → walk bs ≡ got (p ∷ ps) rest → More (λ i. false) bs p ps rest
walk-cons bs e = pieces-got (λ i. false) bs e

module _ (listed : ℕ → Bool) where
  -- the bits are those that the cut leaves and those that it takes away
  pub cut-length : (ps : List Piece) (bs : Bits) {rest : Bits} → walk bs ≡ got ps rest → length bs ≡ length (cut listed ps rest) + total (unlisted listed ps)
  unfolding cut unlisted total
  cut-length [] bs e = ap length (sym (walk-nil bs e).1) ∙ omega arith
  cut-length (p ∷ ps) bs {rest} e = let m = walk-cons bs e in test (listed p.identifier) m.mid m.stands.split (cut-length ps m.mid m.others)
    where
      test : (b : Bool) (mid : Bits) → bs ≡ p.bits ++ mid → length mid ≡ length (cut listed ps rest) + total (unlisted listed ps)
          → length bs ≡ length (cond b (p.bits ++ cut listed ps rest) (cut listed ps rest)) + total (cond b (unlisted listed ps) (p ∷ unlisted listed ps))
      test true mid s h = omega (arith, ap length s, length-append p.bits mid, length-append p.bits (cut listed ps rest))
      test false mid s h = omega (arith, ap length s, length-append p.bits mid)

  -- where nothing is unlisted, nothing is cut
  pub cut_none : (ps : List Piece) (bs : Bits) {rest : Bits} → walk bs ≡ got ps rest → unlisted listed ps ≡ [] → cut listed ps rest ≡ bs
  unfolding cut unlisted
  cut_none [] bs e h = (walk-nil bs e).1
  cut_none (p ∷ ps) bs {rest} e h = let m = walk-cons bs e in test (listed p.identifier) h m.mid m.stands.split (cut_none ps m.mid m.others)
    where
      test : (b : Bool) → cond b (unlisted listed ps) (p ∷ unlisted listed ps) ≡ [] → (mid : Bits) → bs ≡ p.bits ++ mid
          → (unlisted listed ps ≡ [] → cut listed ps rest ≡ mid) → cond b (p.bits ++ cut listed ps rest) (cut listed ps rest) ≡ bs
      test true h mid s ih = rw (ih h) (sym s)
      test false h mid s ih = zero_one (cc)

  abbrev Settled : List Piece → Type 0
  Settled [] = Unit
  Settled (p ∷ ps) = listed p.identifier ≡ true

  -- the unlisted elements at the front are skipped; behind them stands a listed one, or the end
  record Front (bs : Bits) (ps : List Piece) (rest : Bits) : Type 0 where
    skipped : List Piece
    mid : Bits
    left : List Piece
    skips : pieces listed bs ≡ got skipped mid
    walks : walk mid ≡ got left rest
    settled : Settled left
    same : cut listed ps rest ≡ cut listed left rest
    count : length (unlisted listed ps) ≡ length skipped + length (unlisted listed left)

  front : (ps : List Piece) (bs : Bits) {rest : Bits} → walk bs ≡ got ps rest → Front bs ps rest
  unfolding cut unlisted
  front [] bs e = record {
    skipped = [];
    mid = bs;
    left = [];
    skips = pieces-halts listed bs (at_end (walk-nil bs e).0);
    walks = e;
    settled = tt;
    same = refl;
    count = refl;
  }
  front (p ∷ ps) bs {rest} e = let m = walk-cons bs e in test (listed p.identifier) refl m (front ps m.mid m.others)
    where
      test : (b : Bool) → listed p.identifier ≡ b → (m : More (λ i. false) bs p ps rest) → Front m.mid ps rest → Front bs (p ∷ ps) rest
      test true t m f = record {
        skipped = [];
        mid = bs;
        left = p ∷ ps;
        skips = pieces-halts listed bs (at-stop p.identifier (stands-looks m.stands) t);
        walks = e;
        settled = t;
        same = refl;
        count = omega arith;
      }
      test false t m f = record {
        skipped = p ∷ f.skipped;
        mid = f.mid;
        left = f.left;
        skips = pieces-on listed bs m.stands t ∙ rw f.skips;
        walks = f.walks;
        settled = f.settled;
        same = rw t f.same;
        count = rw t (omega (arith, f.count));
      }

  -- WALKS: the walk stays inside, and meets n unlisted elements
  pub record Walks (bs : Bits) (n : ℕ) : Type 0 where
    pub met : List Piece
    pub after : Bits
    pub walked : walk bs ≡ got met after
    pub count : length (unlisted listed met) ≡ n

  walks-one : (n : ℕ) {bs : Bits} {p : Piece} {mid : Bits} → Stands bs p mid → Walks mid n → Walks bs (cond (listed p.identifier) n (suc n))
  unfolding unlisted
  walks-one n {bs} {p} s w = record {
    met = p ∷ w.met;
    after = w.after;
    walked = pieces-on (λ i. false) bs s refl ∙ rw w.walked;
    count = test (listed p.identifier);
  }
    where
      test : (b : Bool) → length (cond b (unlisted listed w.met) (p ∷ unlisted listed w.met)) ≡ cond b n (suc n)
      test true = w.count
      test false = ap suc w.count

  pieces-walks : (us : List Piece) (bs : Bits) {mid : Bits} {m : ℕ} → pieces listed bs ≡ got us mid → Walks mid m → Walks bs (length us + m)
  pieces-walks [] bs {mid} {m} e w = rw (zero-add m) (rw (pieces-got listed bs e).1 at w)
  pieces-walks (p ∷ us) bs {mid} {m} e w =
      let x = pieces-got listed bs e in
      let k : suc (length us) + m ≡ suc (length us + m) = omega arith in
      rw k (rw x.on at (walks-one (length us + m) x.stands (pieces-walks us x.mid x.others w)))

  skip_walks : (b : Bool) (bs : Bits) {n : ℕ} {mid : Bits} {m : ℕ} → skip listed b bs ≡ got n mid → Walks mid m → Walks bs (n + m)
  skip_walks true bs {n} {mid} e w = split-then (pieces listed bs) _ e (λ us r p q.
      let h : length us ≡ n = cc in
      let k : mid ≡ r = cc in
      rw (← h) (pieces-walks us bs p (rw k at w)))
  skip_walks false bs {n} {mid} {m} e w =
      let h : 0 ≡ n = cc in
      let k : mid ≡ bs = cc in
      rw (← h, zero-add m) (rw k at w)

module _ {S A : Type 0} (identifier : S → ℕ) (content : S → ℕ → Reader A)
    (local : (s : S) (n : ℕ) → Local (content s n)) (passes : (s : S) (n : ℕ) → Passes n (content s n)) where
  -- an element that is read is passed whole
  element-whole : (s : S) (bs : Bits) {a : A} {rest : Bits} → element identifier content s bs ≡ got a rest → (i : ℕ) × (whole bs ≡ got i rest)
  unfolding whole
  element-whole s bs {a} {rest} e = split-then (header bs) _ e (λ h mid p q. (h.identifier, rw p (rw ((passes s h.size).at mid a rest q))))

  module _ (listed : ℕ → Bool) where
    -- ## skipping and cutting

    -- the skipping reading is the strict one of the cut bits, and its count is the number of unlisted elements
    abbrev pub Skips : List S → Type 0
    Skips ss = (ps : List Piece) (bs rest : Bits) → walk bs ≡ got ps rest
        → Alike (length (unlisted listed ps)) (scan identifier content listed true ss bs) (scan identifier content listed false ss (cut listed ps rest))

    closing-cut : (k : ℕ) (ps : List Piece) (bs : Bits) {rest : Bits} → walk bs ≡ got ps rest → Settled listed ps → Alike {A = List (Option A)} (k + length (unlisted listed ps))
        (then (closing bs) (λ z. got (counted k []))) (then (closing (cut listed ps rest)) (λ z. got (counted 0 [])))
    unfolding cut unlisted
    closing-cut k [] bs e t = rw (walk-nil bs e).1 (same (closing bs))
      where
        same : (x : Answer Unit) → Alike {A = List (Option A)} (k + 0) (then x (λ z. got (counted k []))) (then x (λ z. got (counted 0 [])))
        same (got z rest) = give [] rest (let h : k ≡ k + 0 = omega arith in rw (← h)) refl
        same (refused n) = refuse n n refl refl
    closing-cut k (p ∷ ps) bs {rest} e t =
        let s = (walk-cons bs e).stands in
        let c : Bits = cut listed ps rest in
        rw (t, closing-opens bs (stands-looks s), closing-opens (p.bits ++ c) (s.element.looks c)) (refuse _ _ refl refl)

    module _ (s : S) (ss : List S) (others : Skips ss) where
      abbrev then-others : Bool → ℕ → Option A → Reader (Counted (List (Option A)))
      then-others b k a = scan identifier content listed b ss >>= λ x. got (counted (k + x.skipped) (a ∷ x.value))

      -- skipping with k skipped before the slot, against strict
      abbrev AlikeBehind : ℕ → ℕ → Answer (Option A) → Answer (Option A) → Type 0
      AlikeBehind k n x y = Alike (k + n) (then x (then-others true k)) (then y (then-others false 0))

      one_more : {n : ℕ} (k : ℕ) (a : Option A) (bs cs : Bits) → Alike n (scan identifier content listed true ss bs) (scan identifier content listed false ss cs)
          → AlikeBehind k n (got a bs) (got a cs)
      one_more k a bs cs (give vs rest p q) = give (a ∷ vs) rest (rw p) (rw q)
      one_more k a bs cs (refuse i j p q) = refuse i j (rw p) (rw q)

      slot-cut : (k : ℕ) (ps : List Piece) (bs rest : Bits) → walk bs ≡ got ps rest → Settled listed ps
          → AlikeBehind k (length (unlisted listed ps)) (slot identifier content s bs) (slot identifier content s (cut listed ps rest))
      unfolding cut unlisted
      slot-cut k [] bs rest e t = let (l, r) = walk-nil bs e in rw r (rw l (one_more k None bs bs (rw r at (others [] bs rest e))))
      slot-cut k (p ∷ ps) bs rest e t =
          let m = walk-cons bs e in
          rw t (rw (stands-looks m.stands, m.stands.element.looks c) (test (eqb p.identifier (identifier s)) m))
        where
          c : Bits
          c = cut listed ps rest

          test : (b : Bool) → More (λ i. false) bs p ps rest
              → AlikeBehind k (length (unlisted listed ps)) (slot_if identifier content s b bs) (slot_if identifier content s b (p.bits ++ c))
          test false m = one_more k None bs (p.bits ++ c) (rw t at (others (p ∷ ps) bs rest e))
          test true m = rw m.stands.split (read (agree (element-local identifier content local s) p.bits uses m.mid c))
            where
              uses : (zs : Bits) (a : A) (r : Bits) → element identifier content s (p.bits ++ zs) ≡ got a r → r ≡ zs
              uses zs a r x = let (i, w) = element-whole s (p.bits ++ zs) x in cc (m.stands.element.passed zs)

              read : Agree (element identifier content s (p.bits ++ m.mid)) (element identifier content s (p.bits ++ c)) m.mid c
                  → AlikeBehind k (length (unlisted listed ps)) (slot_if identifier content s true (p.bits ++ m.mid)) (slot_if identifier content s true (p.bits ++ c))
              read (both a x y) = rw (x, y) (one_more k (Some a) m.mid c (others ps m.mid rest m.others))
              read (neither i j x y) = refuse i j (rw x) (rw y)

    -- THE THEOREM
    pub scan-cut : (ss : List S) → Skips ss
    unfolding scan
    scan-cut [] ps bs rest e =
        let f = front listed ps bs e in
        rw (f.skips, f.same, f.count) (closing-cut (length f.skipped) f.left f.mid f.walks f.settled)
    scan-cut (s ∷ ss) ps bs rest e =
        let f = front listed ps bs e in
        rw (f.skips, f.same, f.count) (slot-cut s ss (scan-cut ss) (length f.skipped) f.left f.mid rest f.walks f.settled)

    -- ## where a reading gives a value

    -- every slot is listed
    abbrev pub Listed : List S → Type 0
    Listed ss = (i : ℕ) → is_listed identifier ss i ≡ true → listed i ≡ true

    slot-walks : (s : S) → listed (identifier s) ≡ true → (bs : Bits) {a : Option A} {mid : Bits} {m : ℕ} → slot identifier content s bs ≡ got a mid
        → Walks listed mid m → Walks listed bs m
    slot-walks s t bs {a} {mid} {m} e w =
        slot_cases identifier content s (λ r. r bs ≡ got a mid → Walks listed bs m) (λ e. refused-got e) (λ e. let h : mid ≡ bs = cc in rw h at w) (look bs) (λ l e.
        split-then (element identifier content s bs) _ e (λ x r p q.
        let k : r ≡ mid = cc in
        let (j, y) = element-whole s bs (rw k at p) in
        let ij : identifier s ≡ j = whole-identifier bs l y in
        let js : listed j ≡ true = rw (← ij) t in
        rw js at (walks-one listed m (whole-stands (rw ij at l) (whole-local.at bs j mid y)) w))) e

    -- THE WALK STAYS INSIDE where either reading gives a value, and has met as many unlisted elements as the reading skipped
    pub scan-walks : (b : Bool) (ss : List S) → Listed ss → (bs : Bits) {x : Counted (List (Option A))} {rest : Bits} → scan identifier content listed b ss bs ≡ got x rest
        → Walks listed bs x.skipped
    unfolding scan unlisted
    scan-walks b [] t bs {x} e =
        split-then (skip listed b bs) _ e (λ n mid p q.
        split-then (closing mid) _ q (λ z r p' q'.
        let k : n + 0 ≡ n = omega arith in
        let g : counted (n + 0) [] ≡ x = cc in
        rw (← g) (skip_walks listed b bs p (record { met = []; after = mid; walked = walk_ends mid (closing-ends mid p'); count = refl }))))
    scan-walks b (s ∷ ss) t bs {x} e =
        split-then (skip listed b bs) _ e (λ n r₁ p₁ q₁.
        split-then (slot identifier content s r₁) _ q₁ (λ a r₂ p₂ q₂.
        split-then (scan identifier content listed b ss r₂) _ q₂ (λ y r₃ p₃ q₃.
        let g : counted (n + y.skipped) (a ∷ y.value) ≡ x = cc in
        let here : listed (identifier s) ≡ true = t (identifier s) (listed-first identifier s ss) in
        let later : Listed ss = λ i h. t i (listed_later identifier s ss i h) in
        rw (← g) (skip_walks listed b bs p₁ (slot-walks s here r₁ p₂ (scan-walks b ss later r₂ p₃))))))
