use Rattle.std.proofs.Common.{◌≡◌, ◌+◌, ◌∙◌, length, ap, length-append, arith}
use Rattle.mm_read.specs.WordsLaws.{octets_more, octets_done}
use Rattle.mm_read.proofs.words.octets_of.Goals as goal

pub loop-pair-preserved : goal.loop-pair-preserved
loop-pair-preserved c =
    let h = c.in-Some.ensures.steps in
    let q = c.loop-pair.invariant in
    let n : length c.loop-pair.pair-iterator.rest.now ≡ length c.in-Some.pair.now + length c.next.new.self.rest.now = ap length h.1.0 ∙ length-append _ _ in
    record {
      pairs = h.0 ∙ q.pairs;
      left = omega (arith, n, h.1.1, q.pairs, q.left, c.push.ensures.len);
      put = octets_more _ _ _ _ _ _ _ h.1.0 (h.1.1 ∙ q.pairs) c.octet.ensures c.push.ensures.items q.put;
    }

pub returns : goal.returns
returns c =
    let h = c.in-None.ensures.steps in
    let q = c.loop-pair.invariant in
    octets_done _ _ _ (omega (arith, h.1.0, q.pairs)) q.put
