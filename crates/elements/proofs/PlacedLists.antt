-- Lists of groups, read at a cursor: for any kind of group.
use Rattle.std.specs.Prelude.{ℕ, ◌+◌, ◌-◌, ◌≤◌, ◌<◌, ◌^◌, ◌≡◌, Bool, List, ◌++◌, take, drop, set, replicate, leb}
use Rattle.std.proofs.Common.{arith, ◌∙◌, length-set, length-take-le, le-leb}
use Rattle.std.proofs.Math.Path.{refl, sym, ap}
use Rattle.std.proofs.Math.Bool.{true, false}
use Rattle.std.specs.Prelude.{None, Some}
use Rattle.std.proofs.Math.ListN.{length}
use Rattle.std.proofs.lemmas.Bool.{lt-leb}
use Rattle.bits.specs.Bits.{Bits}
use Rattle.bits.specs.PduParseError.{type4_underflow, inconsistent_length}
use Rattle.bits.specs.Reader.{Answer, got, refused, Reader, then, ◌>>=◌, field, unless, Local, Tail}
use Rattle.bits.specs.ReaderLaws.{then-then, then_same, split-then, refused-got, local·rules, local_tail, field-local, field_lt, unless-local, zero_one}
use Rattle.bits.specs.Placed.{window, Placed, placed, halted, at}
use Rattle.bits.specs.PlacedLaws.{Gives, told, step, stop, done}
use Rattle.bits.specs.PlacedTimes.{alike, exact, inexact, exact-stop, passed, failed, gathered, gathered_none, turned, turned-not, set-behind, padded-array}
use Rattle.bits.specs.declared.bitbuffer.Cursor.{Cursor}
use Rattle.elements.specs.Generics.{entries_width, entries}
use Rattle.elements.specs.Numbers.{value_or}
use Rattle.elements.specs.Table.{length_width, look, Header, header}
use Rattle.elements.proofs.TableLaws.{two_slots, slot_cases, slot_tail}
use Rattle.elements.specs.Lists.{Groups, Made, list_as, list_of, groups_as, list, entries_most}
use Rattle.elements.proofs.ListsLaws.{entries-local}
use Rattle.elements.specs.Rows.{sized}
use Rattle.elements.specs.Fronts.{front_of, front_at, list_front, behind_front}
use Rattle.elements.specs.GroupAnswers.{nested_slot, nested_slot_if}
use Rattle.elements.specs.declared.typed_pdu_fields.ListFront.{ListFront}
use Rattle.bits.specs.declared.pdu_parse_error.PduParseErr.{PduParseErr}

-- ## a loop that fills the array

module _ {G L : Type 0} (k : Groups G L) (p : Bool) where
  -- a list of these groups
  abbrev listed : List G → L
  listed = list_as k p

  -- A LOOP THAT READS n GROUPS from c on stands at `place`: i of them are read, and stand at the front of the array
  pub record Filled (os : List ℕ) (n : ℕ) (c : Cursor) (groups : List G) (place : Cursor) (i : ℕ) : Type 0 where
    pub few : i ≤ n
    pub long : length groups ≡ entries_most
    pub rest : at (groups_as k p n) os c ≡ at (gathered listed k.group (n - i) (take i groups)) os place
    pub zeros : drop i groups ≡ drop i (replicate entries_most k.zero)

  module _ {os : List ℕ} {n : ℕ} {c : Cursor} where
    pub filled_none : Filled os n c (replicate entries_most k.zero) c 0
    filled_none = let e : n - 0 ≡ n = omega arith in record { few = omega arith; long = refl; rest = rw e; zeros = refl }

    module _ {groups : List G} {place : Cursor} {i : ℕ} (f : Filled os n c groups place i) where
      filled_more : {g : G} {next : Cursor} → i < n → n ≤ entries_most → Tail k.group → Gives k.group os place (placed g next)
          → Filled os n c (set groups i g) next (i + 1)
      filled_more {g} {next} h m lg e =
          let l : length groups ≡ entries_most = f.long in
          record {
            few = omega arith;
            long = length-set groups i g ∙ l;
            rest = f.rest ∙ turned listed k.group os place i n groups h g next (omega arith) lg e;
            zeros = set-behind k.zero groups (replicate entries_most k.zero) i g f.zeros;
          }

      filled-not : {m : PduParseErr} → i < n → Gives k.group os place (halted m) → Gives (groups_as k p n) os c (halted m)
      filled-not {m} h e = record { eq = f.rest ∙ turned-not listed k.group os place i n groups h m e }

      filled-all : n ≤ i → n ≤ entries_most → Gives (groups_as k p n) os c (placed (k.make p n groups) place)
      filled-all h m =
          let few : i ≤ n = f.few in
          let l : length groups ≡ entries_most = f.long in
          let q : i ≡ n = omega arith in
          let z : n - i ≡ 0 = omega arith in
          let t : length (take i groups) ≡ i = length-take-le i groups (omega arith) in
          let w : take i groups ++ replicate (entries_most - length (take i groups)) k.zero ≡ groups = rw t (padded-array k.zero groups i entries_most f.zeros) in
          let e : at (gathered listed k.group (n - i) (take i groups)) os place ≡ placed (listed (take i groups)) place =
          rw z (gathered_none listed k.group os place (take i groups)) in
          record { eq = f.rest ∙ e ∙ (λ j. placed (k.make p ((t ∙ q) j) (w j)) place) }

-- ## n bits that begin with their number of entries

module _ {A : Type 0} (r : ℕ → ℕ → Reader A) (n : ℕ) {os : List ℕ} {c : Cursor} where
  pub entries_unnumbered : {m : PduParseErr} → Gives (field entries_width) os c (halted m) → Gives (entries r n) os c (halted m)
  entries_unnumbered e = stop _ e

  module _ {m : ℕ} {c₁ : Cursor} (e₁ : Gives (field entries_width) os c (placed m c₁)) where
    behind-number : {x : Placed A} → Gives (unless (leb entries_width n) type4_underflow >>= λ z. r m (n - entries_width)) os c₁ x → Gives (entries r n) os c x
    behind-number g = step _ e₁ (local_tail (field-local entries_width)) g

    pub entries_underflow : n < entries_width → Gives (entries r n) os c (halted type4_underflow)
    entries_underflow h = behind-number (stop _ (failed type4_underflow (lt-leb entries_width n h)))

    pub entries-there : entries_width ≤ n → {x : Placed A} → Gives (r m (n - entries_width)) os c₁ x → Gives (entries r n) os c x
    entries-there h e = behind-number (step _ (passed type4_underflow (le-leb entries_width n h)) (local_tail (unless-local (leb entries_width n) type4_underflow)) e)

-- the entries made into another value
module _ {A B : Type 0} (r : ℕ → ℕ → Reader A) (f : A → Reader B) where
  entries-then : (n : ℕ) (bs : Bits) → (entries r n >>= f) bs ≡ entries (λ m n. r m n >>= f) n bs
  entries-then n bs = then-then (field entries_width bs) _ f ∙ then_same (field entries_width bs) (λ m end. then-then (unless (leb entries_width n) type4_underflow end) _ f)

  pub entries-made : (bs : Bits) → sized (λ n. entries r n >>= f) bs ≡ sized (entries (λ m n. r m n >>= f)) bs
  entries-made bs = then_same (field length_width bs) entries-then

-- ## a list's slot, by its front and its groups

-- a value where there is one
there : {A : Type 0} (d : A) (y : Answer A) → then (then y (λ a. got (Some a))) (λ o. got (value_or d o)) ≡ y
there d (got a rest) = refl
there d (refused n) = refl

-- a front counts no more groups than there is room for
front-few : (i : ℕ) (b : Bool) (bs : Bits) {f : ListFront} {rest : Bits} → list_front i b bs ≡ got (Some f) rest → f.count ≤ entries_most
unfolding list_front
front-few i false bs e = zero_one (cc)
front-few i true bs {f} {rest} e0 =
    slot_cases (λ i. i) (λ i. front_at) i (λ r. r bs ≡ got (Some f) rest → f.count ≤ entries_most)
    (λ e. refused-got e) (λ e. zero_one (cc)) (look bs) (λ l. headed (header bs)) e0
  where
    tested : (m n : ℕ) (b : Bool) (mid end : Bits) → m < 2 ^ entries_width → then (unless b type4_underflow mid) (λ z. front_of m n) ≡ got f end
        → f.count ≤ entries_most
    tested m n true mid end l e = let h : m ≡ f.count = cc in omega arith
    tested m n false mid end l e = refused-got e

    headed : (y : Answer Header) → then (then y (λ h. front_at h.size)) (λ f. got (Some f)) ≡ got (Some f) rest → f.count ≤ entries_most
    headed (got h mid) e =
        split-then (front_at h.size mid) (λ f. got (Some f)) e (λ g end p q.
        let same : g ≡ f = cc in
        split-then (field entries_width mid) _ (rw same at p) (λ m front p₁ q₁.
        tested m (h.size - entries_width) (leb entries_width h.size) front end (field_lt entries_width mid p₁) q₁))
    headed (refused n) e = refused-got e

front_tail : (i : ℕ) (b : Bool) → Tail (list_front i b)
unfolding list_front
front_tail i true = slot_tail (λ i. i) (λ i. front_at) (λ j n. search local·rules depth 8) i
front_tail i false = search local·rules

module _ {G L : Type 0} (k : Groups G L) (i : ℕ) where
  -- where the list is there
  groups-behind : (y : Answer Header) → then (then (then y (λ h. list k h.size)) (λ l. got (Some l))) (λ o. got (value_or (list_of k None) o))
      ≡ then (then (then y (λ h. front_at h.size)) (λ f. got (Some f))) (behind_front k)
  unfolding list
  groups-behind (got h rest) =
      there (list_of k None) (list k h.size rest)
      ∙ sym (entries-then front_of (λ f. behind_front k (Some f)) h.size rest)
      ∙ sym (then-then (front_at h.size rest) (λ f. got (Some f)) (behind_front k))
  groups-behind (refused n) = refl

  slot-behind : (b : Bool) (bs : Bits) → nested_slot_if k i b bs ≡ (list_front i b >>= behind_front k) bs
  unfolding nested_slot list_front
  slot-behind true bs =
      two_slots (λ i. i) (λ i. list k) i (λ i. i) (λ i. front_at) i refl
      (λ r q. then (r bs) (λ o. got (value_or (list_of k None) o)) ≡ then (q bs) (behind_front k))
      refl refl (look bs) (λ l. groups-behind (header bs))
  slot-behind false bs = refl

  module _ (b : Bool) {os : List ℕ} {c : Cursor} where
    pub no_front_lem : {n : PduParseErr} → Gives (list_front i b) os c (halted n) → Gives (nested_slot_if k i b) os c (halted n)
    no_front_lem e = alike (list_front i b >>= behind_front k) (slot-behind b _) (stop _ e)

    -- an absent list
    pub list-absent : {c₁ : Cursor} → Gives (list_front i b) os c (placed None c₁) → Gives (nested_slot_if k i b) os c (placed (list_of k None) c₁)
    list-absent e = alike (list_front i b >>= behind_front k) (slot-behind b _) (step _ e (front_tail i b) done)

-- A LIST'S SLOT, read by a loop behind its front: it stands at `place`, with j groups read
module _ {G L : Type 0} (k : Groups G L) (s : Local k.group) (i : ℕ) (b : Bool) {os : List ℕ} {c : Cursor} {f : ListFront} {c₁ : Cursor}
    (e : Gives (list_front i b) os c (placed (Some f) c₁)) {groups : List G} {place : Cursor} {j : ℕ} (l : Filled k true os f.count c₁ groups place j) where
  pub few : f.count ≤ entries_most
  few = front-few i b (window os c) (told (front_tail i b) e).said

  behind : {x : Placed L} → Gives (behind_front k (Some f)) os c₁ x → Gives (nested_slot_if k i b) os c x
  behind g = alike (list_front i b >>= behind_front k) (slot-behind k i b _) (step _ e (front_tail i b) g)

  module _ (h : j < f.count) where
    pub group-refused : {m : PduParseErr} → Gives k.group os place (halted m) → Gives (nested_slot_if k i b) os c (halted m)
    group-refused g = behind (exact-stop _ (filled-not k _ l h g))

    pub group-read : {g : G} {next : Cursor} → Gives k.group os place (placed g next) → Filled k true os f.count c₁ (set groups j g) next (j + 1)
    group-read g = filled_more k _ l h few (local_tail s) g

  module _ (h : f.count ≤ j) where
    all_there : Gives (groups_as k true f.count) os c₁ (placed (k.make true f.count groups) place)
    all_there = filled-all k _ l h few

    -- it ends behind where it begins
    pub list_on : c₁.at ≤ place.at
    list_on = (told (local_tail (entries-local k s true f.count)) all_there).on

    pub list-whole : place.at - c₁.at ≡ f.len → Gives (nested_slot_if k i b) os c (placed (k.make true f.count groups) place)
    list-whole q = behind (exact _ all_there (local_tail (entries-local k s true f.count)) q)

    pub list-inexact : (place.at - c₁.at ≡ f.len → ⊥) → Gives (nested_slot_if k i b) os c (halted inconsistent_length)
    list-inexact q = behind (inexact _ all_there (local_tail (entries-local k s true f.count)) q)

-- ## a list that is filled in place

-- it is there, counts n groups, and i of them are read
pub record FilledList {G L : Type 0} (k : Groups G L) (os : List ℕ) (n : ℕ) (c : Cursor) (l : L) (place : Cursor) (i : ℕ) : Type 0 where
  pub filled : Filled k true os n c (k.groups l) place i
  pub whole : l ≡ k.make true n (k.groups l)

module _ {G L : Type 0} (k : Groups G L) (m : Made k) {os : List ℕ} {n : ℕ} {c : Cursor} {l : L} where
  list_made : {gs : List G} {place : Cursor} {i : ℕ} → l ≡ k.make true n gs → Filled k true os n c gs place i → FilledList k os n c l place i
  list_made {gs} e f =
      let h : k.groups l ≡ gs = ap k.groups e ∙ m.groups true n gs in
      record { filled = rw h f; whole = e ∙ ap (k.make true n) (sym h) }

  pub list_zeros : l ≡ k.make true n (replicate entries_most k.zero) → FilledList k os n c l c 0
  list_zeros e = list_made e (filled_none k true)

  pub list_put : {l' : L} {gs : List G} {next : Cursor} {i : ℕ} → l' ≡ k.make true n (k.groups l') → l ≡ k.make (k.present l') (k.count l') gs
      → Filled k true os n c gs next i → FilledList k os n c l next i
  list_put {l'} {gs} whole e f =
      let p : k.present l' ≡ true = ap k.present whole ∙ m.presence true n (k.groups l') in
      let q : k.count l' ≡ n = ap k.count whole ∙ m.count true n (k.groups l') in
      list_made (e ∙ (λ j. k.make (p j) (q j) gs)) f
