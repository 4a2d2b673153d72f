-- The digits that are passed write a number, and the rest goes on from it.
use Rattle.std.proofs.Common.{◌≡◌, ◌^◌, ◌<◌, drop}
use Rattle.mm_read.specs.Words.{decimal_from}
use Rattle.mm_read.proofs.words.decimal_of.Given as goal

abbrev pub invariant-loop-c : goal.invariant-loop-c
invariant-loop-c l = (l.n < 2 ^ 64) × (decimal_from 0 l.digits ≡ decimal_from l.n (drop l.c-index l.digits))
