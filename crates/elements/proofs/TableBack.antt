-- A table that is written is read back.
use Rattle.std.specs.Prelude.{ℕ, ◌^◌, ◌<◌, ◌≡◌, refl, Bool, true, false, not, ◌&&◌, length, ltb}
use Rattle.std.proofs.Common.{sym, ap, ◌∙◌, true≢false, lit<}
use Rattle.std.proofs.Math.Bool.{and-eq-true_iff}
use Rattle.std.specs.Prelude.{Option, None, Some}
use mathlib.Core.List.{List, [], ◌∷◌, ◌++◌, append_assoc}
use borrow.Author.Tests.{eq-eqb, ne_eqb, ltb-true, not-true}
use Rattle.bits.specs.Bits.{Bits, digits}
use Rattle.bits.specs.Reader.{got, Reader}
use Rattle.bits.specs.ReaderLaws.{field_back}
use Rattle.elements.specs.Table.{mbit_width, identifier_width, length_width, Look, ends, opens, look, header, closing, element, slot, is_listed, counted, scan}
use Rattle.elements.proofs.TableLaws.{Halts, at_end, at-stop, listed-first, listed_later}
use Rattle.elements.specs.TableWritten.{element_bits, slot_bits, table_bits}

regroup : (i : ℕ) (xs rest : Bits) → element_bits i xs ++ rest ≡ digits mbit_width 1 ++ (digits identifier_width i ++ (digits length_width (length xs) ++ (xs ++ rest)))
unfolding element_bits
regroup i xs rest = simp append_assoc

look-opens : (i : ℕ) (xs rest : Bits) → i < 2 ^ identifier_width → look (element_bits i xs ++ rest) ≡ opens i
unfolding look
look-opens i xs rest h = rw (regroup i xs rest, field_back mbit_width 1 _ (lit< tt)) (rw (field_back identifier_width i _ h))

look-ends : (rest : Bits) → look (digits mbit_width 0 ++ rest) ≡ ends
unfolding look
look-ends rest = rw (field_back mbit_width 0 rest (lit< tt))

module _ {S : Type 0} (identifier : S → ℕ) where
  -- identifiers that fit their width and differ
  unfoldable pub distinct : List S → Bool
  distinct [] = true
  distinct (s ∷ ss) = ltb (identifier s) (2 ^ identifier_width) && (not (is_listed identifier ss (identifier s)) && distinct ss)

  record Apart (s : S) (ss : List S) : Type 0 where
    small : identifier s < 2 ^ identifier_width
    new : is_listed identifier ss (identifier s) ≡ false
    others : distinct ss ≡ true

  apart : (s : S) (ss : List S) → distinct (s ∷ ss) ≡ true → Apart s ss
  unfolding distinct
  apart s ss d =
      let (a, e) = (and-eq-true_iff (ltb (identifier s) (2 ^ identifier_width)) _).0 d in
      let (b, c) = (and-eq-true_iff (not (is_listed identifier ss (identifier s))) _).0 e in
      record { small = ltb-true _ _ a; new = not-true _ b; others = c }

  halts_later : (s : S) (ss : List S) {l : Look} → Halts (is_listed identifier ss) l → Halts (is_listed identifier (s ∷ ss)) l
  halts_later s ss (at_end l) = at_end l
  halts_later s ss (at-stop i l t) = at-stop i l (listed_later identifier s ss i t)

module _ {S A : Type 0} (normal : S → A → A) where
  abbrev pub normal_slot : S → Option A → Option A
  normal_slot s None = None
  normal_slot s (Some a) = Some (normal s a)

  unfoldable pub normal_slots : List S → List (Option A) → List (Option A)
  normal_slots [] vs = []
  normal_slots (s ∷ ss) [] = None ∷ normal_slots ss []
  normal_slots (s ∷ ss) (v ∷ vs) = normal_slot s v ∷ normal_slots ss vs

module _ {S A : Type 0} (content : S → ℕ → Reader A) (content_bits : S → A → Bits) (normal : S → A → A) where
  -- a's bits are short enough for an element and read as a's normal form
  pub record Back (s : S) (a : A) : Type 0 where
    pub short : length (content_bits s a) < 2 ^ length_width
    pub reads : (rest : Bits) → content s (length (content_bits s a)) (content_bits s a ++ rest) ≡ got (normal s a) rest

  abbrev pub SlotBack : S → Option A → Type 0
  SlotBack s None = Unit
  SlotBack s (Some a) = Back s a

  abbrev pub SlotsBack : List S → List (Option A) → Type 0
  SlotsBack [] vs = Unit
  SlotsBack (s ∷ ss) [] = SlotsBack ss []
  SlotsBack (s ∷ ss) (v ∷ vs) = SlotBack s v × SlotsBack ss vs

module _ {S A : Type 0} (identifier : S → ℕ) (content : S → ℕ → Reader A) where
  -- a slot is absent where an element of a later slot stands, or the end
  slot-absent : (s : S) (ss : List S) → Apart identifier s ss → (bs : Bits) → Halts (is_listed identifier ss) (look bs) → slot identifier content s bs ≡ got None bs
  slot-absent s ss a bs (at_end l) = rw l
  slot-absent s ss a bs (at-stop i l t) = rw l (rw (ne_eqb i (identifier s) (λ e. true≢false (sym t ∙ ap (is_listed identifier ss) e ∙ a.new))))

  module _ (content_bits : S → A → Bits) (normal : S → A → A) where
    element-back : (s : S) (a : A) (rest : Bits) → identifier s < 2 ^ identifier_width → Back content content_bits normal s a
        → element identifier content s (element_bits (identifier s) (content_bits s a) ++ rest) ≡ got (normal s a) rest
    unfolding header
    element-back s a rest h b =
        rw (regroup (identifier s) (content_bits s a) rest, field_back mbit_width 1 _ (lit< tt))
        (rw (field_back identifier_width (identifier s) _ h) (rw (field_back length_width (length (content_bits s a)) _ b.short) (b.reads rest)))

    slot-back : (s : S) (ss : List S) → Apart identifier s ss → (v : Option A) → SlotBack content content_bits normal s v → (bs : Bits) → Halts (is_listed identifier ss) (look bs)
        → slot identifier content s (slot_bits identifier content_bits s v ++ bs) ≡ got (normal_slot normal s v) bs
    slot-back s ss p None b bs h = slot-absent s ss p bs h
    slot-back s ss p (Some a) b bs h =
        rw (look-opens (identifier s) (content_bits s a) bs p.small) (rw (eq-eqb (identifier s) (identifier s) refl) (rw (element-back s a bs p.small b)))

    -- the table's bits begin with one of its elements, or with the closing M-bit
    table-halts : (ss : List S) → distinct identifier ss ≡ true → (vs : List (Option A)) (rest : Bits)
        → Halts (is_listed identifier ss) (look (table_bits identifier content_bits ss vs ++ rest))
    unfolding table_bits
    table-halts [] d vs rest = at_end (look-ends rest)
    table-halts (s ∷ ss) d [] rest = halts_later identifier s ss (table-halts ss (apart identifier s ss d).others [] rest)
    table-halts (s ∷ ss) d (None ∷ vs) rest = halts_later identifier s ss (table-halts ss (apart identifier s ss d).others vs rest)
    table-halts (s ∷ ss) d (Some a ∷ vs) rest =
        rw (append_assoc (element_bits (identifier s) (content_bits s a)) (table_bits identifier content_bits ss vs) rest)
        (at-stop (identifier s) (look-opens (identifier s) (content_bits s a) _ (apart identifier s ss d).small) (listed-first identifier s ss))

    -- THE TABLE IS READ BACK, in normal form
    pub table-back : (listed : ℕ → Bool) (ss : List S) → distinct identifier ss ≡ true → (vs : List (Option A)) → SlotsBack content content_bits normal ss vs → (rest : Bits)
        → scan identifier content listed false ss (table_bits identifier content_bits ss vs ++ rest) ≡ got (counted 0 (normal_slots normal ss vs)) rest
    unfolding scan table_bits normal_slots closing
    table-back listed [] d vs b rest = rw (field_back mbit_width 0 rest (lit< tt))
    table-back listed (s ∷ ss) d [] b rest =
        let p = apart identifier s ss d in
        let bs : Bits = table_bits identifier content_bits ss [] in
        rw (slot-absent s ss p (bs ++ rest) (table-halts ss p.others [] rest)) (rw (table-back listed ss p.others [] b rest))
    table-back listed (s ∷ ss) d (v ∷ vs) b rest =
        let p = apart identifier s ss d in
        let bs : Bits = table_bits identifier content_bits ss vs in
        rw (append_assoc (slot_bits identifier content_bits s v) bs rest, slot-back s ss p v b.0 (bs ++ rest) (table-halts ss p.others vs rest))
        (rw (table-back listed ss p.others vs b.1 rest))
