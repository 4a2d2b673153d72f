-- `elements::typed_pdu_fields::slots_before` meets its contract.
use Rattle.std.specs.Prelude.{ℕ, ◌≡◌, cond, Some, None, unwrap_or, length, ltb, refl, Bool, true, false, ◌≤◌}
use Rattle.std.specs.List.{position_or_len}
use Rattle.std.proofs.Common.{rules, tests, arith, ◌∙◌}
use Rattle.std.proofs.lemmas.List.Sums.{prefix_len-le-length}
use Rattle.std.proofs.lemmas.Bool.{ltb-false}
use Rattle.std.proofs.lemmas.Iterator.{YieldsList-from_slice}
use Rattle.std.proofs.lemmas.Iterator.Search.{position_from_yields_List}
use Rattle.elements.specs.Rows.{opened_by}
use Rattle.elements.proofs.typed_pdu_fields.slots_before.Goals as goal

-- the first place, or the length where there is none
place-or : (n m : ℕ) → n ≤ m → unwrap_or (cond (ltb n m) (Some n) None) m ≡ n
place-or n m h = go (ltb n m) refl
  where
    go : (b : Bool) → ltb n m ≡ b → unwrap_or (cond b (Some n) None) m ≡ n
    go true e = refl
    go false e = omega (arith, ltb-false n m e)

pub returns : goal.returns
returns c =
    let t = c.args.slots.now in
    let p : c.position.result ≡ cond (ltb (position_or_len (opened_by c.args.id) t) (length t)) (Some (position_or_len (opened_by c.args.id) t)) None
    = position_from_yields_List (opened_by c.args.id) _ _ _ c.position.ensures.ran (YieldsList-from_slice t cc) (λ x b q k. search (rules, tests)) in
    rw p at c.unwrap_or.ensures ∙ place-or _ _ (prefix_len-le-length _ t)
