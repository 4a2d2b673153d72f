-- Laws of lists of groups, for any kind of group of which the hypotheses below hold.
use Prim.Native.Nat.{ℕ, zero, suc, ◌^◌, ◌≤◌}
use Rattle.std.proofs.Common.{arith, sym, ◌∙◌, take_at}
use Rattle.std.specs.Prelude.{◌≡◌, Bool, ◌&&◌, leb, option_map}
use Rattle.std.proofs.Math.Path.{refl, ap}
use Rattle.std.proofs.Math.Bool.{true, false}
use Rattle.std.specs.Prelude.{Option, None, Some}
use mathlib.Core.List.{List, [], ◌∷◌, ◌++◌, append_assoc, map}
use Rattle.std.proofs.Math.ListN.{length, take}
use Rattle.std.proofs.lemmas.List.{length-map}
use Rattle.std.proofs.Math.Seq.{length-take-le}
use borrow.Author.Tests.{leb-true, lt-ltb}
use Rattle.bits.specs.Bits.{Bits}
use Rattle.bits.specs.Reader.{got, times, exactly, Local}
use Rattle.bits.specs.ReaderLaws.{local·rules, got-local, bind_local, times-local, local_tail, split-then, exactly-got, Passes, exactly-passes}
use Rattle.elements.specs.Numbers.{held, option_all}
use Rattle.elements.proofs.NumbersLaws.{never, both, same_map}
use Rattle.elements.specs.TraitLaws.{uplink-local, downlink-local}
use Rattle.elements.proofs.GroupsLaws.{uplink_back_lem, uplink-same, uplink_normal-same, uplink-own, downlink_back_lem, downlink-same, downlink_normal-same, downlink-own}
use Rattle.elements.specs.Generics.{entries_width}
use Rattle.elements.proofs.GenericsLaws.{entries-back, entries-got, exactly-back, entries-passes}
use Rattle.elements.specs.Lists.{entries_most, each, all, Each, both_end, one_more, Groups, padded, list_of, groups_as, groups_read, list, list_bits, list_fits, list_one, list_listed, list_normal, SameList, uplinks, downlinks}

-- what the laws below ask of a kind of group, and of the list that holds such groups
pub record Sound {G L : Type 0} (k : Groups G L) : Type 0 where
  pub local : Local k.group
  pub back : (g : G) → k.fits g ≡ true → k.one g ≡ true → k.listed g ≡ true → (rest : Bits) → k.group (k.bits g ++ rest) ≡ got (k.normal g) rest
  pub same : (g h : G) → k.Same g h → k.normal g ≡ k.normal h
  pub normal-same : (g : G) → k.Same g (k.normal g)
  -- a group that was read is its own normal form
  pub own : (bs : Bits) (g : G) (rest : Bits) → k.group bs ≡ got g rest → k.normal g ≡ g
  pub present : (p : Bool) (n : ℕ) (gs : List G) → k.present (k.make p n gs) ≡ p
  pub count : (p : Bool) (n : ℕ) (gs : List G) → k.count (k.make p n gs) ≡ n
  pub groups : (p : Bool) (n : ℕ) (gs : List G) → k.groups (k.make p n gs) ≡ gs
  pub whole : (l : L) → k.make (k.present l) (k.count l) (k.groups l) ≡ l

pub uplinks_sound : Sound uplinks
uplinks_sound = record {
  local = uplink-local;
  back = uplink_back_lem;
  same = λ g h s. uplink-same s;
  normal-same = uplink_normal-same;
  own = λ bs g rest. uplink-own bs;
  present = λ p n gs. refl;
  count = λ p n gs. refl;
  groups = λ p n gs. refl;
  whole = λ l. refl;
}

pub downlinks_sound : Sound downlinks
downlinks_sound = record {
  local = downlink-local;
  back = downlink_back_lem;
  same = λ g h s. downlink-same s;
  normal-same = downlink_normal-same;
  own = λ bs g rest. downlink-own bs;
  present = λ p n gs. refl;
  count = λ p n gs. refl;
  groups = λ p n gs. refl;
  whole = λ l. refl;
}

-- ## what a list's reader uses

pub entries-local : {G L : Type 0} (k : Groups G L) → Local k.group → (p : Bool) (m : ℕ) → Local (groups_as k p m)
entries-local k l p m = bind_local (times m k.group) _ (times-local m k.group l) (λ gs. got-local _)

pub list-local : {G L : Type 0} (k : Groups G L) → Local k.group → (n : ℕ) → Local (list k n)
unfolding list
list-local k l n = search (local·rules, entries-local k l) depth 8

module _ {G L : Type 0} {k : Groups G L} (s : Sound k) where
  pub list-passes : (n : ℕ) → Passes n (list k n)
  unfolding list
  list-passes n = entries-passes (λ m n. exactly n (groups_read k m)) (λ m n. exactly-passes n (groups_read k m) (local_tail (entries-local k s.local true m))) n

  -- ## reading back

  times-back : (gs : List G) → all k.fits gs ≡ true → all k.one gs ≡ true → all k.listed gs ≡ true → (rest : Bits)
      → times (length gs) k.group (each k.bits gs ++ rest) ≡ got (map k.normal gs) rest
  unfolding times each all
  times-back [] f o l rest = refl
  times-back (g ∷ gs) f o l rest =
      let x = both (k.fits g) (all k.fits gs) f in
      let y = both (k.one g) (all k.one gs) o in
      let z = both (k.listed g) (all k.listed gs) l in
      rw (append_assoc (k.bits g) (each k.bits gs) rest)
      (rw (s.back g x.0 y.0 z.0 (each k.bits gs ++ rest))
      (rw (times-back gs x.1 y.1 z.1 rest)))

  pub list_back : (l : L) → k.present l ≡ true → length (k.groups l) ≡ entries_most → list_fits k l ≡ true → list_one k l ≡ true → list_listed k l ≡ true
      → (rest : Bits) → list k (length (list_bits k l)) (list_bits k l ++ rest) ≡ got (list_normal k l) rest
  unfolding list list_bits list_fits list_one list_listed list_normal
  list_back l p full f o h rest =
      let n : ℕ = k.count l in
      let gs : List G = take n (k.groups l) in
      let x = both (leb n entries_most) (all k.fits gs) (rw p at f) in
      let few : n ≤ entries_most = leb-true _ _ x.0 in
      let long : length gs ≡ n = length-take-le n (k.groups l) (omega arith) in
      let e = rw long at (times-back gs x.1 (rw p at o) (rw p at h) rest) in
      entries-back (λ m n. exactly n (groups_read k m)) n (each k.bits gs) rest (lt-ltb n (2 ^ entries_width) (omega arith))
      (exactly-back (groups_read k n) (each k.bits gs) rest (rw (e, p)))

  -- ## the normal form

  each_same : {gs hs : List G} → Each k.Same gs hs → map k.normal gs ≡ map k.normal hs
  each_same both_end = refl
  each_same (one_more {g} {h} e r) = rw (s.same g h e, each_same r)

  pub list_same : {l m : L} → SameList k l m → list_normal k l ≡ list_normal k m
  unfolding list_normal
  list_same e = ap (list_of k) (same_map {eq = Each k.Same} (map k.normal) (λ gs hs. each_same) (record { presence = e.presence; value = e.groups }))

  each-normal : (gs : List G) → Each k.Same gs (map k.normal gs)
  each-normal [] = both_end
  each-normal (g ∷ gs) = one_more (s.normal-same g) (each-normal gs)

  -- the entries of a list that is made of them
  made-entries : (gs : List G) → take (k.count (list_of k (Some gs))) (k.groups (list_of k (Some gs))) ≡ gs
  made-entries gs = rw (s.count true (length gs) (padded k gs), s.groups true (length gs) (padded k gs), take_at gs _ (length gs) refl)

  pub list_normal-same : (l : L) → list_fits k l ≡ true → length (k.groups l) ≡ entries_most → SameList k l (list_normal k l)
  unfolding list_fits list_normal
  list_normal-same l f full = go (k.present l) refl f
    where
      gs : List G
      gs = take (k.count l) (k.groups l)

      xs : List G
      xs = map k.normal gs

      go : (p : Bool) → k.present l ≡ p → (option_all (λ n. leb n entries_most) (held p (k.count l)) && option_all (all k.fits) (held p gs)) ≡ true
          → SameList k l (list_of k (option_map (map k.normal) (held p gs)))
      go true e f =
          let few : k.count l ≤ entries_most = leb-true _ _ (both _ _ f).0 in
          let long : length xs ≡ k.count l = length-map gs k.normal ∙ length-take-le (k.count l) (k.groups l) (omega arith) in
          record {
            presence = rw (s.present true (length xs) (padded k xs)) e;
            count = λ z. rw (s.count true (length xs) (padded k xs)) (sym long);
            groups = λ z. rw (made-entries xs) (each-normal gs);
          }
      go false e f = record {
        presence = rw (s.present false 0 (padded k [])) e;
        count = λ z. never (sym e ∙ z);
        groups = λ z. never (sym e ∙ z);
      }

  normal-list_of : (o : Option (List G)) → list_normal k (list_of k o) ≡ list_of k (option_map (map k.normal) o)
  unfolding list_normal
  normal-list_of None = rw (s.present false 0 (padded k []))
  normal-list_of (Some gs) = rw (s.present true (length gs) (padded k gs), made-entries gs)

  -- an absent list is its own normal form
  pub absent-own : list_normal k (list_of k None) ≡ list_of k None
  absent-own = normal-list_of None

  times-own : (m : ℕ) (bs : Bits) {gs : List G} {rest : Bits} → times m k.group bs ≡ got gs rest → map k.normal gs ≡ gs
  unfolding times
  times-own zero bs {gs} e = let end : [] ≡ gs = cc in rw (← end)
  times-own (suc m) bs {gs} e =
      split-then (k.group bs) _ e (λ g b₁ p₁ q₁.
      split-then (times m k.group b₁) _ q₁ (λ hs b₂ p₂ q₂.
      let made : g ∷ hs ≡ gs = cc in
      rw (← made) (rw (s.own bs g b₁ p₁, times-own m b₁ p₂))))

  -- a list that was read is its own normal form
  pub list-own : (n : ℕ) (bs : Bits) {l : L} {rest : Bits} → list k n bs ≡ got l rest → list_normal k l ≡ l
  unfolding list
  list-own n bs {l} e =
      entries-got (λ m n. exactly n (groups_read k m)) n bs e (λ m mid q.
      split-then (times m k.group mid) _ (exactly-got _ (groups_read k m) mid q).inner (λ gs b₁ p₁ q₁.
      let made : list_of k (Some gs) ≡ l = cc in
      rw (← made) (normal-list_of (Some gs) ∙ ap (λ x. list_of k (Some x)) (times-own m mid p₁))))
