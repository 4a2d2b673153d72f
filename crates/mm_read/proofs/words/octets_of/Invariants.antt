-- The octets so far, and the rest goes on with them.
use Rattle.std.proofs.Common.{◌≡◌, ◌+◌, ◌*◌, ◌++◌, length}
use Rattle.mm_read.specs.Words.{octets}
use Rattle.mm_read.proofs.words.octets_of.Given as goal

abbrev pub invariant-loop-pair : goal.invariant-loop-pair
invariant-loop-pair l = record {
  pairs : l.pair-iterator.size ≡ 2;
  left : 2 * length l.out.items + length l.pair-iterator.rest.now ≡ length l.fn.hex;
  put : octets l.fn.hex ≡ l.out.items ++ octets l.pair-iterator.rest.now;
}
