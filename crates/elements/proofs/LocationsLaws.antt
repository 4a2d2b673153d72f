-- Laws of a list inside a structure, and of the two location structures.
use Rattle.std.specs.Prelude.{ℕ, ◌^◌, ◌<◌, ◌≡◌, refl, ◌&&◌, length, get_or, eqb}
use Rattle.std.proofs.Common.{sym, ap, ◌∙◌, lit<}
use Rattle.std.proofs.Math.Bool.{Bool, true, false, cond}
use Rattle.std.specs.Prelude.{Option, None, Some}
use mathlib.Core.List.{List, [], ◌∷◌, ◌++◌, append_assoc}
use Rattle.bits.specs.Bits.{Bits, bit, digits}
use Rattle.bits.specs.BitsLaws.{bit_lt}
use Rattle.bits.specs.Reader.{Reader, got, ◌>>=◌, field, pass, exactly, Local}
use Rattle.bits.specs.ReaderLaws.{local·rules, local_tail, got-local, bind_local, field_back, split-then, exactly-local, exactly-got, Passes, exactly-passes}
use Rattle.elements.specs.Numbers.{flag_width, held, value_or, option_bits, in_width}
use Rattle.elements.proofs.NumbersLaws.{both, number-back}
use Rattle.elements.specs.Table.{length_width, is_listed, scan_table}
use Rattle.elements.proofs.TableLaws.{scan-local, AllSlots, slots_end, one-slot, scan-all}
use Rattle.elements.specs.TableWritten.{table_bits}
use Rattle.elements.proofs.TableBack.{distinct, normal_slots, table-back}
use Rattle.elements.proofs.GenericsLaws.{exactly-back}
use Rattle.elements.specs.Lists.{entries_most, Groups, list, list_of, list_held, list_bits, list_fits, list_one, list_listed, list_normal, SameList, uplinks, downlinks}
use Rattle.elements.proofs.ListsLaws.{Sound, uplinks_sound, downlinks_sound, list-local, list_back, list_same, list_normal-same, list-own, absent-own}
use Rattle.elements.specs.Locations.{nested_if, nested, nested_bits, group_identity_uplink_identifier, group_identity_downlink_identifier, demand_reserved, demand_front, demand_body, location_demand, location_demand_bits, location_demand_fits, location_demand_normal, SameLocationDemand, accept_reserved, accept_front, accept_body, location_accept, location_accept_bits, location_accept_fits, location_accept_normal, SameLocationAccept}
use Rattle.elements.specs.declared.group_identity_uplink.OptionalUplinks.{OptionalUplinks}
use Rattle.elements.specs.declared.group_identity_downlink.OptionalDownlinks.{OptionalDownlinks}
use Rattle.elements.specs.declared.group_identity_location_demand.GroupIdentityLocationDemand.{GroupIdentityLocationDemand}
use Rattle.elements.specs.declared.group_identity_location_accept.GroupIdentityLocationAccept.{GroupIdentityLocationAccept}

-- what is asked of a list that is written as an element
pub record ListOk {G L : Type 0} (k : Groups G L) (l : L) : Type 0 where
  pub array : length (k.groups l) ≡ entries_most
  pub fits : list_fits k l ≡ true
  pub one : list_one k l ≡ true
  pub listed : list_listed k l ≡ true
  pub short : length (option_bits (list_bits k) (list_held k l)) < 2 ^ length_width

-- ## a list inside a structure

module _ {G L : Type 0} {k : Groups G L} (s : Sound k) (i : ℕ) where
  pub nested-local : Local (nested k i)
  unfolding nested
  nested-local = bind_local (field flag_width) _ (search local·rules) (λ o. test (eqb o 1))
    where
      test : (b : Bool) → Local (nested_if k i b)
      test true =
          bind_local (scan_table (λ i. i) (λ i. list k) false (i ∷ [])) _ (scan-local (λ i. i) (λ i. list k) (λ j n. list-local k s.local n) _ (i ∷ [])) (λ x. got-local _)
      test false = got-local _

  -- a list that was read is its own normal form
  pub nested-own : (bs : Bits) {l : L} {rest : Bits} → nested k i bs ≡ got l rest → list_normal k l ≡ l
  unfolding nested
  nested-own bs {l} {rest} e = split-then (field flag_width bs) _ e (λ o mid p q. test (eqb o 1) mid q)
    where
      only : {vs : List (Option L)} → AllSlots {S = ℕ} (λ j l. list_normal k l ≡ l) (i ∷ []) vs
          → list_normal k (value_or (list_of k None) (get_or vs 0 None)) ≡ value_or (list_of k None) (get_or vs 0 None)
      only (one-slot {v = None} h slots_end) = absent-own s
      only (one-slot {v = Some l} h slots_end) = h

      test : (b : Bool) (mid : Bits) → nested_if k i b mid ≡ got l rest → list_normal k l ≡ l
      test true mid q =
          split-then (scan_table (λ i. i) (λ i. list k) false (i ∷ []) mid) _ q (λ x r p' q'.
          let made : value_or (list_of k None) (get_or x.value 0 None) ≡ l = cc in
          rw (← made) (only (scan-all (λ i. i) (λ i. list k) (λ j n bs l rest. list-own s n bs) _ false (i ∷ []) mid p')))
      test false mid q = let made : list_of k None ≡ l = cc in rw (← made) (absent-own s)

  -- a list that is written is read back, in normal form
  pub nested-back : distinct (λ i. i) (i ∷ []) ≡ true → (l : L) → ListOk k l → (rest : Bits)
      → nested k i (nested_bits k i l ++ rest) ≡ got (list_normal k l) rest
  unfolding nested nested_bits normal_slots list_normal
  nested-back apart l ok rest =
      let p : Bool = k.present l in
      rw (append_assoc (digits flag_width (bit p)) (table p) rest) (rw (field_back flag_width (bit p) (table p ++ rest) (bit_lt p)) (go p refl))
    where
      table : Bool → Bits
      table p = cond p (table_bits (λ i. i) (λ i. list_bits k) (i ∷ []) (held p l ∷ [])) []

      go : (p : Bool) → k.present l ≡ p → nested_if k i (eqb (bit p) 1) (table p ++ rest) ≡ got (list_normal k l) rest
      go true e =
          rw (table-back (λ i. i) (λ i. list k) (λ i. list_bits k) (λ i. list_normal k) _ (i ∷ []) apart (Some l ∷ [])
          (record { short = rw e at ok.short; reads = list_back s l e ok.array ok.fits ok.one ok.listed }, tt) rest)
      go false e = rw e

-- ## a structure: two bits, one of them a number, and a list

-- how the two bits are read, and f at their number after them; and how they are written before other bits
record Front {D : Type 0} (read : (ℕ → Reader D) → Reader D) (write : ℕ → Bits → Bits) : Type 0 where
  local : (f : ℕ → Reader D) → ((m : ℕ) → Local (f m)) → Local (read f)
  back : (f : ℕ → Reader D) (m : ℕ) → in_width flag_width m ≡ true → (xs rest : Bits) → read f (write m xs ++ rest) ≡ f m (xs ++ rest)
  goes : (f : ℕ → Reader D) (bs : Bits) (d : D) (rest : Bits) → read f bs ≡ got d rest → (m : ℕ) × (mid : Bits) × (f m mid ≡ got d rest)

-- THE LAWS OF A STRUCTURE of n bits: it is local, read back, and its own normal form when read; and its normal form is what is present in it
pub record Structure {G L D : Type 0} (k : Groups G L) (inner : D → L) (body : Reader D) (structure : ℕ → Reader D)
    (bits : D → Bits) (fits : D → Bool) (normal : D → D) (Same : D → D → Type 0) : Type 0 where
  pub body-local : Local body
  pub local : (n : ℕ) → Local (structure n)
  pub passes : (n : ℕ) → Passes n (structure n)
  pub inner-fits : (d : D) → fits d ≡ true → list_fits k (inner d) ≡ true
  pub back : (d : D) → fits d ≡ true → ListOk k (inner d) → (rest : Bits) → structure (length (bits d)) (bits d ++ rest) ≡ got (normal d) rest
  pub own : (n : ℕ) (bs : Bits) (d : D) (rest : Bits) → structure n bs ≡ got d rest → normal d ≡ d
  pub same : (d e : D) → Same d e → normal d ≡ normal e
  pub normal-same : (d : D) → fits d ≡ true → length (k.groups (inner d)) ≡ entries_most → Same d (normal d)

-- how a structure holds its number and its list
record Made {G L D : Type 0} (k : Groups G L) (of : ℕ → L → D) (number : D → ℕ) (inner : D → L) (Same : D → D → Type 0) : Type 0 where
  number_of : (m : ℕ) (l : L) → number (of m l) ≡ m
  inner_of : (m : ℕ) (l : L) → inner (of m l) ≡ l
  number_same : {d e : D} → Same d e → number d ≡ number e
  inner-same : {d e : D} → Same d e → SameList k (inner d) (inner e)
  same_of : {d e : D} → number d ≡ number e → SameList k (inner d) (inner e) → Same d e

module _ {G L D : Type 0} {k : Groups G L} (s : Sound k) (i : ℕ) (apart : distinct (λ i. i) (i ∷ []) ≡ true)
    {of : ℕ → L → D} {number : D → ℕ} {inner : D → L} {Same : D → D → Type 0} (made : Made k of number inner Same)
    {read : (ℕ → Reader D) → Reader D} {write : ℕ → Bits → Bits} (front : Front read write) where
  structure : let body : Reader D = read (λ m. nested k i >>= λ l. got (of m l)) in
      Structure k inner body (λ n. exactly n body) (λ d. write (number d) (nested_bits k i (inner d)))
      (λ d. in_width flag_width (number d) && list_fits k (inner d)) (λ d. of (number d) (list_normal k (inner d))) Same
  structure = record {
    body-local = read-local;
    local = λ n. exactly-local n body read-local;
    passes = λ n. exactly-passes n body (local_tail read-local);
    inner-fits = λ d f. (in_width_lem d f).1;
    back = λ d f ok rest.
        exactly-back body (write (number d) (nested_bits k i (inner d))) rest
        (front.back _ (number d) (in_width_lem d f).0 (nested_bits k i (inner d)) rest ∙ rw (nested-back s i apart (inner d) ok rest));
    own = λ n bs d rest e.
        let g = front.goes _ bs d rest (exactly-got n body bs e).inner in
        split-then (nested k i g.1) _ g.2 (λ l r p q.
        let was : of g.0 l ≡ d = cc in
        rw (← was) ((λ j. of (made.number_of g.0 l j) (list_normal k (made.inner_of g.0 l j))) ∙ ap (of g.0) (nested-own s i g.1 p)));
    same = λ d e h. λ j. of (made.number_same h j) (list_same s (made.inner-same h) j);
    normal-same = λ d f full.
        made.same_of (sym (made.number_of (number d) _)) (rw (made.inner_of (number d) (list_normal k (inner d))) (list_normal-same s (inner d) (in_width_lem d f).1 full));
  }
    where
      body : Reader D
      body = read (λ m. nested k i >>= λ l. got (of m l))

      read-local : Local body
      read-local = front.local _ (λ m. bind_local (nested k i) _ (nested-local s i) (λ l. got-local (of m l)))

      in_width_lem : (d : D) → (in_width flag_width (number d) && list_fits k (inner d)) ≡ true → (in_width flag_width (number d) ≡ true) × (list_fits k (inner d) ≡ true)
      in_width_lem d = both (in_width flag_width (number d)) (list_fits k (inner d))

-- ## location demand

abbrev pub demand_of : ℕ → OptionalUplinks → GroupIdentityLocationDemand
demand_of m l = record { group_identity_attach_detach_mode = m; group_identity_uplink = l }

demand_front_lem : Front {D = GroupIdentityLocationDemand} demand_front (λ m xs. digits flag_width 0 ++ (digits flag_width m ++ xs))
demand_front_lem = record {
  local = λ f l. search local·rules depth 8;
  back = λ f m h xs rest. simp append_assoc (rw (field_back flag_width 0 (digits flag_width m ++ (xs ++ rest)) (lit< tt)) (rw (number-back flag_width m h (xs ++ rest))));
  goes = λ f bs d rest e.
      split-then (field flag_width bs) _ e (λ r b₁ p₁ q₁.
      split-then (demand_reserved r b₁) _ q₁ (λ z b₂ p₂ q₂.
      split-then (field flag_width b₂) f q₂ (λ m b₃ p₃ q₃. (m, b₃, q₃))));
}

pub demand_laws : Structure uplinks (λ d. d.group_identity_uplink) demand_body location_demand location_demand_bits location_demand_fits location_demand_normal SameLocationDemand
unfolding location_demand demand_body location_demand_bits location_demand_fits location_demand_normal distinct is_listed
demand_laws =
    structure uplinks_sound group_identity_uplink_identifier refl {of = demand_of} {number = λ d. d.group_identity_attach_detach_mode} (record {
      number_of = λ m l. refl;
      inner_of = λ m l. refl;
      number_same = λ h. h.mode;
      inner-same = λ h. h.list;
      same_of = λ p q. record { mode = p; list = q };
    }) demand_front_lem

-- ## location accept

abbrev pub accept_of : ℕ → OptionalDownlinks → GroupIdentityLocationAccept
accept_of m l = record { group_identity_accept_reject = m; group_identity_downlink = l }

accept_front_lem : Front {D = GroupIdentityLocationAccept} accept_front (λ m xs. digits flag_width m ++ (digits flag_width 0 ++ xs))
unfolding pass
accept_front_lem = record {
  local = λ f l. search local·rules depth 8;
  back = λ f m h xs rest. simp append_assoc (rw (number-back flag_width m h (digits flag_width 0 ++ (xs ++ rest))) (rw (field_back flag_width 0 (xs ++ rest) (lit< tt))));
  goes = λ f bs d rest e.
      split-then (field flag_width bs) _ e (λ m b₁ p₁ q₁.
      split-then (accept_reserved b₁) _ q₁ (λ z b₂ p₂ q₂. (m, b₂, q₂)));
}

pub accept_laws : Structure downlinks (λ d. d.group_identity_downlink) accept_body location_accept location_accept_bits location_accept_fits location_accept_normal SameLocationAccept
unfolding location_accept accept_body location_accept_bits location_accept_fits location_accept_normal distinct is_listed
accept_laws =
    structure downlinks_sound group_identity_downlink_identifier refl {of = accept_of} {number = λ d. d.group_identity_accept_reject} (record {
      number_of = λ m l. refl;
      inner_of = λ m l. refl;
      number_same = λ h. h.accept_reject_lem;
      inner-same = λ h. h.list;
      same_of = λ p q. record { accept_reject_lem = p; list = q };
    }) accept_front_lem
