use Rattle.std.proofs.Common.{◌≡◌, ◌-◌, ◌∙◌, List, ℕ, length, take, drop, position, not, rules, tests}
use Rattle.std.proofs.lemmas.Iterator.{YieldsList-from_slice}
use Rattle.std.proofs.lemmas.Iterator.Search.{position_from_yields_List}
use Rattle.mm_read.specs.Words.{is_blank, unblanked}
use Rattle.mm_read.specs.WordsLaws.{unblanked_is, word_of, behind_word}
use Rattle.mm_read.proofs.words.Text.split.Goals as goal

-- what stands behind the blanks in front
abbrev rest : goal.After-behind-1 → List ℕ
rest c = let text = c.self.inside.characters.now in take (length text - c.unwrap_or.result) (drop c.unwrap_or.result text)

rest_is : (c : goal.After-behind-1) → rest c ≡ unblanked c.args.self.now
rest_is c =
    unblanked_is c.self.inside.characters.now c.args.self.now _ _ (search rules)
    (position_from_yields_List {all = c.self.inside.characters.now} (λ x. not (is_blank x)) _ _ _ c.position-start.ensures.ran (YieldsList-from_slice _ cc) (λ x b q k. search (rules, tests)))
    c.unwrap_or.ensures

end_is : (c : goal.After-behind-1) → c.position-end.result ≡ position is_blank (rest c)
end_is c = position_from_yields_List {all = rest c} is_blank _ _ _ c.position-end.ensures.ran (YieldsList-from_slice _ cc) (λ x b q k. search (rules, tests))

pub returns-clause-word : goal.returns-clause-word
returns-clause-word c = c.split_at.ensures.front ∙ word_of _ _ _ _ (rest_is c) (end_is c) c.unwrap_or-2.ensures

pub returns-clause-behind : goal.returns-clause-behind
returns-clause-behind c = c.split_at.ensures.back ∙ behind_word _ _ _ _ (rest_is c) (end_is c) c.unwrap_or-2.ensures
