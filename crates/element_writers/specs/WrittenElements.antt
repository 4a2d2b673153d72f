-- Elements as they are written at a moved place: an absent one has no bits.
use Rattle.std.specs.Prelude.{ℕ, ◌+◌, ◌≤◌, ◌≡◌, Bool, leb}
use native.Mathlib.Omega.{arith}
use Rattle.std.proofs.Math.Path.{refl, sym, ap, ap₂}
use Rattle.std.proofs.Common.{◌∙◌, leb-true, le-leb}
use Rattle.std.proofs.Math.Bool.{true, false, cond}
use Rattle.std.specs.Prelude.{Option}
use mathlib.Core.List.{List, [], ◌∷◌, ◌++◌, append_assoc, append-nil}
use Rattle.std.proofs.Math.ListN.{length, take, length-append}
use Rattle.bits.specs.Bits.{Bits, bit, digits}
use Rattle.bits.specs.BitsLaws.{length_digits}
use Rattle.bits.specs.Written.{Spot, joined, bits_in, Holds}
use Rattle.bits.specs.DigitsLaws.{holds-few}
use Rattle.bits.specs.PutsLaws.{Puts, ◌⨾◌, joined-append}
use Rattle.elements.specs.Table.{mbit_width, identifier_width, length_width}
use Rattle.elements.specs.TableWritten.{element_bits, table_bits}
use Rattle.elements.specs.Numbers.{held, option_bits, option_all, flag_width, announced}
use Rattle.elements.proofs.NumbersLaws.{both}
use Rattle.elements.specs.Generics.{entries_width, type3_bits, type3_fits}
use Rattle.elements.specs.Kinds.{held_in}
use Rattle.elements.specs.declared.typed_pdu_fields.Kind.TheVariants as K
use Rattle.elements.specs.Lists.{Groups, downlinks, each, list_bits, list_held}
use Rattle.elements.specs.Locations.{nested_bits}
use Rattle.element_writers.specs.GroupParts.{each-joined, downlink_parts, downlink_parts_lem}
use Rattle.elements.specs.declared.typed_pdu_fields.Type3FieldGeneric.{Type3FieldGeneric}
use Rattle.elements.specs.declared.typed_pdu_fields.OptionalType3.{OptionalType3}
use Rattle.elements.specs.declared.group_identity_downlink.OptionalDownlinks.{OptionalDownlinks}
use Rattle.bits.specs.declared.bitbuffer.Digits.{Digits}

-- M-bit 1, identifier, length
abbrev pub header_bits : ℕ → ℕ → Bits
header_bits i n = (digits mbit_width 1 ++ digits identifier_width i) ++ digits length_width n

-- an element is its header and its content
pub header-content : (i : ℕ) (xs : Bits) → header_bits i (length xs) ++ xs ≡ element_bits i xs
unfolding element_bits
header-content i xs = simp append_assoc

pub header-length : (i n : ℕ) → length (header_bits i n) ≡ 16
header-length i n =
    rw (
      length-append (digits mbit_width 1 ++ digits identifier_width i) (digits length_width n),
      length-append (digits mbit_width 1) (digits identifier_width i),
      length_digits mbit_width 1,
      length_digits identifier_width i,
      length_digits length_width n,
    )

pub element-length : (i : ℕ) (xs : Bits) → length (element_bits i xs) ≡ 16 + length xs
element-length i xs =
    ap length (sym (header-content i xs)) ∙ length-append (header_bits i (length xs)) xs ∙ ap (λ (n : ℕ). n + length xs) (header-length i (length xs))

-- AN ELEMENT that may be absent
abbrev pub optional_bits : {A : Type 0} → ℕ → (A → Bits) → Option A → Bits
optional_bits i bits o = option_bits (λ a. element_bits i (bits a)) o

-- a type 3 element: header and data, as two fields
abbrev pub type3_parts : ℕ → OptionalType3 → List Bits
type3_parts i o = cond o.present (header_bits i o.value.len ∷ digits o.value.len o.value.«data» ∷ []) []

pub type3-few : (o : OptionalType3) → o.present ≡ true → option_all type3_fits (held_in K.Type3 o) ≡ true → o.value.len ≤ 64
unfolding type3_fits
type3-few o p f = leb-true o.value.len 64 (both (leb o.value.len 64) _ (rw p at f)).0

pub type3-length : (g : Type3FieldGeneric) → length (type3_bits g) ≡ g.len
unfolding type3_bits
type3-length g = length_digits g.len g.«data»

-- how many bits it has; none where it is longer than 64 bits
unfoldable pub type3_size : OptionalType3 → ℕ
type3_size o = cond o.present (cond (leb o.value.len 64) (16 + o.value.len) 0) 0

pub type3_size_lem : (i : ℕ) (o : OptionalType3) → option_all type3_fits (held_in K.Type3 o) ≡ true → type3_size o ≡ length (optional_bits i type3_bits (held_in K.Type3 o))
unfolding type3_size
type3_size_lem i o f = go o.present refl
  where
    go : (p : Bool) → o.present ≡ p → cond p (cond (leb o.value.len 64) (16 + o.value.len) 0) 0 ≡ length (optional_bits i type3_bits (held p o.value))
    go true p = rw (le-leb _ _ (type3-few o p f)) (sym (element-length i (type3_bits o.value) ∙ ap (λ (n : ℕ). 16 + n) (type3-length o.value)))
    go false p = refl

pub type3-joined : (i : ℕ) (o : OptionalType3) → joined (type3_parts i o) ≡ optional_bits i type3_bits (held_in K.Type3 o)
unfolding joined type3_bits
type3-joined i o = go o.present
  where
    g : Type3FieldGeneric
    g = o.value

    go : (p : Bool) → joined (cond p (header_bits i g.len ∷ digits g.len g.«data» ∷ []) []) ≡ optional_bits i type3_bits (held p g)
    go true =
        rw (append-nil (digits g.len g.«data»))
        (ap (λ (n : ℕ). header_bits i n ++ digits g.len g.«data») (sym (length_digits g.len g.«data»)) ∙ header-content i (digits g.len g.«data»))
    go false = refl

-- ## lists, and the structures that hold one

-- what stands before a list's groups: the header, n being the length of its content, and the count
abbrev pub list_front_bits : ℕ → ℕ → ℕ → Bits
list_front_bits i n v = header_bits i n ++ digits entries_width v

pub list_front-fits : (i n v : ℕ) → length (list_front_bits i n v) ≤ 64
list_front-fits i n v = let h = header-length i n in let d = length_digits entries_width v in rw (length-append (header_bits i n) (digits entries_width v)) (omega arith)

pub flag_fits : (d : Digits) (v : ℕ) → d.width ≤ 63 → length (bits_in d ++ digits flag_width v) ≤ 64
flag_fits d v h =
    let l = length_digits d.width d.value in
    let f = length_digits flag_width v in
    rw (length-append (bits_in d) (digits flag_width v)) (omega arith)

-- a structure up to its O-bit, n being the length of its content
abbrev pub structure_front : ℕ → ℕ → ℕ → ℕ → Bits
structure_front j n x y = (header_bits j n ++ digits flag_width x) ++ digits flag_width y

front_length : (j n x y : ℕ) → length (structure_front j n x y) ≡ 18
front_length j n x y =
    let a = length-append (header_bits j n ++ digits flag_width x) (digits flag_width y) in
    let b = length-append (header_bits j n) (digits flag_width x) in
    let c = length_digits flag_width x in
    let d = length_digits flag_width y in
    let h = header-length j n in
    omega arith

pub front-held : (j n x y : ℕ) {d : Digits} → Holds d (structure_front j n x y) → (d.width ≤ 63) × (bits_in d ≡ structure_front j n x y)
front-held j n x y h = let l = front_length j n x y in let w = holds-few h (rw l (omega arith)) in (omega (arith, w.0), w.1)

pub closing-fits : length (digits mbit_width 0) ≤ 64
closing-fits = rw (length_digits mbit_width 0) (omega arith)

module _ {G L : Type 0} (k : Groups G L) (parts : G → List Bits) (i : ℕ) where
  -- a list as an element whose content has n bits: header and count, then the groups
  abbrev pub list_parts : ℕ → L → List Bits
  list_parts n l = list_front_bits i n (k.count l) ∷ each parts (take (k.count l) (k.groups l))

  -- behind what stands before it: the O-bit; if it is present the list, and the closing M-bit
  unfoldable pub nested_parts : Bits → ℕ → L → List Bits
  nested_parts xs n l = (xs ++ digits flag_width (bit (k.present l))) ∷ cond (k.present l) (list_parts n l ++ (digits mbit_width 0 ∷ [])) []

  module _ (xs : Bits) (n : ℕ) (l : L) {s t : Spot} where
    pub nested-there : {u v : Spot} → k.present l ≡ true → Puts ((xs ++ digits flag_width (bit (k.present l))) ∷ []) s t → Puts (list_parts n l) t u
        → Puts (digits mbit_width 0 ∷ []) u v → Puts (nested_parts xs n l) s v
    unfolding nested_parts
    nested-there e p q r = rw e (rw e at (p ⨾ (q ⨾ r)))

    pub nested-absent : k.present l ≡ false → Puts ((xs ++ digits flag_width (bit (k.present l))) ∷ []) s t → Puts (nested_parts xs n l) s t
    unfolding nested_parts
    nested-absent e p = rw e (rw e at p)

  -- they are the list's bits, and the structure's
  module _ (same : (g : G) → joined (parts g) ≡ k.bits g) (l : L) where
    pub list-joined : joined (list_parts (length (list_bits k l)) l) ≡ element_bits i (list_bits k l)
    unfolding joined list_bits
    list-joined =
        let h : Bits = header_bits i (length (list_bits k l)) in
        let d : Bits = digits entries_width (k.count l) in
        let gs : List G = take (k.count l) (k.groups l) in
        ap (λ (xs : Bits). (h ++ d) ++ xs) (each-joined parts k.bits same gs)
        ∙ append_assoc h d (each k.bits gs)
        ∙ header-content i (d ++ each k.bits gs)

    -- m being the length of its content
    pub list-joined_as : {m : ℕ} → k.present l ≡ true → m ≡ length (option_bits (list_bits k) (list_held k l)) → joined (list_parts m l) ≡ element_bits i (list_bits k l)
    list-joined_as {m} p e = let f : m ≡ length (list_bits k l) = rw p at e in ap (λ (m : ℕ). joined (list_parts m l)) f ∙ list-joined

    pub nested-joined : (xs : Bits) → joined (nested_parts xs (length (option_bits (list_bits k) (list_held k l))) l) ≡ xs ++ nested_bits k i l
    unfolding nested_parts joined nested_bits table_bits
    nested-joined xs = go (k.present l) refl
      where
        go : (p : Bool) → k.present l ≡ p
            → (xs ++ digits flag_width (bit p)) ++ joined (cond p (list_parts (length (option_bits (list_bits k) (held p l))) l ++ (digits mbit_width 0 ∷ [])) [])
            ≡ xs ++ announced p (table_bits (λ i. i) (λ i. list_bits k) (i ∷ []) (held p l ∷ []))
        go true e =
            ap (λ (ys : Bits). (xs ++ digits flag_width 1) ++ ys)
            (joined-append (list_parts (length (list_bits k l)) l) (digits mbit_width 0 ∷ []) ∙ ap₂ (λ (ys zs : Bits). ys ++ zs) list-joined (append-nil (digits mbit_width 0)))
            ∙ append_assoc xs (digits flag_width 1) (element_bits i (list_bits k l) ++ digits mbit_width 0)
        go false e = append_assoc xs (digits flag_width 0) []

    -- how long
    pub nested-length : cond (k.present l) (18 + length (option_bits (list_bits k) (list_held k l))) 1 ≡ length (nested_bits k i l)
    unfolding nested_bits table_bits
    nested-length = go (k.present l)
      where
        go : (p : Bool) → cond p (18 + length (option_bits (list_bits k) (held p l))) 1
            ≡ length (announced p (table_bits (λ i. i) (λ i. list_bits k) (i ∷ []) (held p l ∷ [])))
        go true =
            let a = length-append (digits flag_width 1) (element_bits i (list_bits k l) ++ digits mbit_width 0) in
            let b = length-append (element_bits i (list_bits k l)) (digits mbit_width 0) in
            let e = element-length i (list_bits k l) in
            let x = length_digits flag_width 1 in
            let y = length_digits mbit_width 0 in
            omega arith
        go false = sym (length-append (digits flag_width 0) [] ∙ omega (arith, length_digits flag_width 0))

    -- A STRUCTURE of two bits and the list
    module _ (x y : ℕ) where
      abbrev structure_bits : Bits
      structure_bits = digits flag_width x ++ (digits flag_width y ++ nested_bits k i l)

      -- m being the length of the list's content
      pub structure-length : {m : ℕ} → m ≡ length (option_bits (list_bits k) (list_held k l)) → 2 + cond (k.present l) (18 + m) 1 ≡ length structure_bits
      structure-length size =
          let a = length-append (digits flag_width x) (digits flag_width y ++ nested_bits k i l) in
          let b = length-append (digits flag_width y) (nested_bits k i l) in
          let c = length_digits flag_width x in
          let d = length_digits flag_width y in
          let e = ap (λ (m : ℕ). cond (k.present l) (18 + m) 1) size ∙ nested-length in
          omega arith

      -- as an element, n being the length of its content
      pub structure-joined : (j : ℕ) {m n : ℕ} → m ≡ length (option_bits (list_bits k) (list_held k l)) → n ≡ length structure_bits
          → joined (nested_parts (structure_front j n x y) m l) ≡ element_bits j structure_bits
      structure-joined j {m} {n} size whole =
          ap (λ (m : ℕ). joined (nested_parts (structure_front j n x y) m l)) size
          ∙ nested-joined (structure_front j n x y)
          ∙ append_assoc (header_bits j n ++ digits flag_width x) (digits flag_width y) (nested_bits k i l)
          ∙ append_assoc (header_bits j n) (digits flag_width x) (digits flag_width y ++ nested_bits k i l)
          ∙ ap (λ (m : ℕ). header_bits j m ++ structure_bits) whole
          ∙ header-content j structure_bits

-- A LIST AS AN OUTER ELEMENT, with identifier i, which may be absent; its content has n bits
abbrev pub outer_list_parts : ℕ → ℕ → OptionalDownlinks → List Bits
outer_list_parts i n l = cond l.present (list_parts downlinks downlink_parts i n l) []

pub outer_list-joined : (i : ℕ) (l : OptionalDownlinks) {n : ℕ} → n ≡ length (option_bits (list_bits downlinks) (list_held downlinks l))
    → joined (outer_list_parts i n l) ≡ optional_bits i (list_bits downlinks) (list_held downlinks l)
unfolding joined
outer_list-joined i l {n} e = go l.present refl
  where
    go : (p : Bool) → l.present ≡ p
        → joined (cond p (list_parts downlinks downlink_parts i n l) []) ≡ optional_bits i (list_bits downlinks) (held p l)
    go true p = list-joined_as downlinks downlink_parts i downlink_parts_lem l p e
    go false p = refl
