-- Numbers and their widths, side by side: they are asked pair by pair.
use Rattle.std.specs.Prelude.{ℕ, ◌≡◌, refl, Bool, ◌&&◌, List, [], ◌∷◌}
use Rattle.std.specs.List.{list_all, zip}
use Rattle.std.proofs.Common.{ap}
use Rattle.elements.specs.Numbers.{in_width}
use Rattle.elements.specs.ClassOfMs.{numbers_fit}

pub pairs-fit : (vs ws : List ℕ) → list_all (λ p. in_width p.1 p.0) (zip vs ws) ≡ numbers_fit ws vs
unfolding numbers_fit
pairs-fit [] [] = refl
pairs-fit [] (w ∷ ws) = refl
pairs-fit (v ∷ vs) [] = refl
pairs-fit (v ∷ vs) (w ∷ ws) = ap (λ (b : Bool). in_width w v && b) (pairs-fit vs ws)
