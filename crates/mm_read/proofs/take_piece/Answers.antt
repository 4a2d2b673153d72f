use Rattle.std.proofs.Common.{sym, ◌∙◌, refl, rules}
use Rattle.mm_read.specs.LinesLaws.{held_more, held-ends}
use Rattle.mm_read.proofs.take_piece.Goals as goal

pub loop-character-preserved : goal.loop-character-preserved
loop-character-preserved g c = c.loop-character.invariant ∙ held_more _ _ c.args.piece.now _ c.loop-character-test.true ∙ rw c.take.ensures refl

pub returns : goal.returns
returns g c = sym (c.loop-character.invariant ∙ held-ends _ _ c.args.piece.now _ (search rules))
