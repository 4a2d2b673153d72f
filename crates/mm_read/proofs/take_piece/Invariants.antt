-- What is held behind the characters that are passed, and the rest goes on with it.
use Rattle.std.proofs.Common.{◌≡◌, drop}
use Rattle.mm_read.specs.Lines.{held}
use Rattle.mm_read.proofs.take_piece.Given as goal

abbrev pub invariant-loop-character : goal.invariant-loop-character
invariant-loop-character g l = held 16384 l.fn.line l.piece ≡ held 16384 l.line (drop l.character-index l.piece)
