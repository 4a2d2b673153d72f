use Rattle.mm_read.specs.WordsLaws.{digit_is}
use Rattle.mm_read.proofs.words.digit.Goals as goal

pub returns-clause-value : goal.returns-clause-value
returns-clause-value c = digit_is _ _ _ _ c.from.ensures c.to_digit.ensures.value
