-- Laws of generic elements, and of contents that use exactly their length.
use Rattle.std.specs.Prelude.{ℕ, ◌+◌, ◌-◌, ◌≤◌, min, ◌≡◌, Bool, true, false, ◌++◌, length, leb}
use Rattle.std.proofs.Common.{arith, append_assoc, length-append, leb-true, le-leb, eq-eqb}
use Rattle.bits.specs.PduParseError.{type4_underflow}
use Rattle.bits.specs.Bits.{Bits, digits}
use Rattle.bits.specs.BitsLaws.{length_digits}
use Rattle.bits.specs.Reader.{Reader, got, then, field, pass, unless, exactly, Local}
use Rattle.bits.specs.ReaderLaws.{local·rules, split-then, refused-got, field-enough, Passes, field-passes, pass-passes, got-passes, bind_passes, unless-passes}
use Rattle.elements.specs.Numbers.{in_width}
use Rattle.elements.proofs.NumbersLaws.{both, number-back}
use Rattle.elements.specs.Generics.{data_width, entries_width, kept, type3, entries, kept_entries, type4, type3_bits, type4_bits, type3_fits, type4_fits}
use Rattle.elements.specs.declared.typed_pdu_fields.Type3FieldGeneric.{Type3FieldGeneric}
use Rattle.elements.specs.declared.typed_pdu_fields.Type4FieldGeneric.{Type4FieldGeneric}

-- ## local

pub kept-local : (n : ℕ) → Local (kept n)
unfolding kept
kept-local n = search local·rules depth 8

pub type3-local : (n : ℕ) → Local (type3 n)
unfolding type3
type3-local n = search (local·rules, kept-local) depth 8

pub type4-local : (n : ℕ) → Local (type4 n)
unfolding type4
type4-local n = search (local·rules, kept-local) depth 8

-- ## reading back

kept_back : (n v : ℕ) → leb n data_width ≡ true → in_width n v ≡ true → (rest : Bits) → kept n (digits n v ++ rest) ≡ got v rest
unfolding kept pass
kept_back n v h f rest =
    let l : n ≤ data_width = leb-true _ _ h in
    let all : min n data_width ≡ n = omega arith in
    let nothing : n - data_width ≡ 0 = omega arith in
    rw (all, nothing) (rw (number-back n v f rest) (rw (field-enough 0 rest (omega arith))))

-- a content that is read back is so behind its number of entries
pub entries-back : {A : Type 0} (r : ℕ → ℕ → Reader A) (k : ℕ) (xs rest : Bits) {a : A} → in_width entries_width k ≡ true
    → r k (length xs) (xs ++ rest) ≡ got a rest
    → entries r (length (digits entries_width k ++ xs)) ((digits entries_width k ++ xs) ++ rest) ≡ got a rest
entries-back r k xs rest f e =
    let n : ℕ = length xs in
    let long : length (digits entries_width k ++ xs) ≡ entries_width + n = omega (arith, length-append (digits entries_width k) xs, length_digits entries_width k) in
    let less : entries_width + n - entries_width ≡ n = omega arith in
    rw (long, append_assoc (digits entries_width k) xs rest)
    (rw (number-back entries_width k f (xs ++ rest))
    (rw (le-leb entries_width (entries_width + n) (omega arith), less) e))

-- what is read back uses its own length
pub exactly-back : {A : Type 0} (r : Reader A) (xs rest : Bits) {a : A} → r (xs ++ rest) ≡ got a rest → exactly (length xs) r (xs ++ rest) ≡ got a rest
exactly-back r xs rest e = rw (e, eq-eqb _ _ (length-append xs rest))

pub type3-back : (g : Type3FieldGeneric) → type3_fits g ≡ true → (rest : Bits) → type3 (length (type3_bits g)) (type3_bits g ++ rest) ≡ got g rest
unfolding type3 type3_bits type3_fits
type3-back g f rest =
    let x = both (leb g.len data_width) _ f in
    rw (length_digits g.len g.«data») (rw (kept_back g.len g.«data» x.0 x.1 rest))

pub type4-back : (g : Type4FieldGeneric) → type4_fits g ≡ true → (rest : Bits) → type4 (length (type4_bits g)) (type4_bits g ++ rest) ≡ got g rest
unfolding type4 type4_bits type4_fits
type4-back g f rest =
    let x = both (leb g.len data_width) _ f in
    let y = both (in_width g.len g.«data») _ x.1 in
    entries-back kept_entries g.elems (digits g.len g.«data») rest y.1
    (rw (length_digits g.len g.«data») (rw (kept_back g.len g.«data» x.0 y.0 rest)))

-- ## passing

-- what a value from a content with a number of entries rests on
pub entries-got : {A P : Type 0} (r : ℕ → ℕ → Reader A) (n : ℕ) (bs : Bits) {a : A} {rest : Bits} → entries r n bs ≡ got a rest
    → ((k : ℕ) (mid : Bits) → r k (n - entries_width) mid ≡ got a rest → P) → P
entries-got {A} {P} r n bs {a} {rest} e to = split-then (field entries_width bs) _ e (λ k mid p q. go k mid (leb entries_width n) q)
  where
    go : (k : ℕ) (mid : Bits) (b : Bool) → then (unless b type4_underflow mid) (λ z. r k (n - entries_width)) ≡ got a rest → P
    go k mid true q = to k mid q
    go k mid false q = refused-got q

kept-passes : (n : ℕ) → Passes n (kept n)
unfolding kept
kept-passes n =
    bind_passes (min n data_width) (n - data_width) (field (min n data_width)) _ (omega arith) (field-passes (min n data_width))
    (λ d. bind_passes (n - data_width) 0 (pass (n - data_width)) _ (omega arith) (pass-passes (n - data_width)) (λ z. got-passes d))

-- behind the number of entries the rest of the length is passed
pub entries-passes : {A : Type 0} (r : ℕ → ℕ → Reader A) → ((k m : ℕ) → Passes m (r k m)) → (n : ℕ) → Passes n (entries r n)
entries-passes r h n =
    unless-passes (leb entries_width n) type4_underflow n (field entries_width) (λ k. r k (n - entries_width))
    (λ e. let le = leb-true entries_width n e in
    bind_passes entries_width (n - entries_width) (field entries_width) _ (omega arith) (field-passes entries_width) (λ k. h k (n - entries_width)))

pub type3-passes : (n : ℕ) → Passes n (type3 n)
unfolding type3
type3-passes n = bind_passes n 0 (kept n) _ (omega arith) (kept-passes n) (λ d. got-passes (record { len = n; «data» = d }))

pub type4-passes : (n : ℕ) → Passes n (type4 n)
unfolding type4
type4-passes = entries-passes kept_entries (λ k n. bind_passes n 0 (kept n) _ (omega arith) (kept-passes n) (λ d. got-passes _))
