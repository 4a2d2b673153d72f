-- Laws of the entries of a list, taken one after the other.
use Prim.Native.Nat.{ℕ, zero, suc, ◌+◌, ◌<◌, min}
use Rattle.std.proofs.Common.{arith, ◌∙◌, take_all, leb-true, leb-false}
use Rattle.std.specs.Prelude.{◌≡◌, refl, Bool, true, false, length, take, get_or, leb}
use Rattle.std.proofs.Math.Path.{sym, ap}
use mathlib.Core.List.{List, [], ◌∷◌, ◌++◌, append_assoc, append-nil}
use Rattle.elements.specs.Lists.{each}

-- one more
module _ {A G : Type 0} (of : G → List A) where
  each_next : (gs : List G) (i : ℕ) (d : G) → i < length gs → each of (take (suc i) gs) ≡ each of (take i gs) ++ of (get_or gs i d)
  unfolding each
  each_next [] i d h = absurd (omega arith)
  each_next (g ∷ gs) zero d h = append-nil (of g)
  each_next (g ∷ gs) (suc i) d h =
      ap (λ (xs : List A). of g ++ xs) (each_next gs i d (omega arith)) ∙ sym (append_assoc (of g) (each of (take i gs)) (of (get_or gs i d)))

  pub each_more : (gs : List G) (i : ℕ) (d : G) → i < length gs → each of (take (i + 1) gs) ≡ each of (take i gs) ++ of (get_or gs i d)
  each_more gs i d h = let z : i + 1 ≡ suc i = omega arith in rw z (each_next gs i d h)

-- as many as there are
pub take-most : {G : Type 0} (n m : ℕ) (gs : List G) → length gs ≡ m → take (min n m) gs ≡ take n gs
take-most n m gs e = go (leb n m) refl
  where
    go : (b : Bool) → leb n m ≡ b → take (min n m) gs ≡ take n gs
    go true h = let l = leb-true n m h in let z : min n m ≡ n = omega arith in rw z
    go false h =
        let l = leb-false n m h in
        let z : min n m ≡ m = omega arith in
        rw z (take_all m gs (omega arith) ∙ sym (take_all n gs (omega arith)))
