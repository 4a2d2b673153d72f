-- `element_writers::energy_saving_information::then_saving` meets its contract. Assumes nothing.
use Rattle.std.specs.Prelude.{◌≡◌}
use Rattle.bits.specs.DigitsLaws.{joined-twice}
use Rattle.elements.specs.Numbers.{value_or, in_u8}
use Rattle.elements.specs.EnergySaving.{saving_bits}
use Rattle.element_writers.proofs.energy_saving_information.then_saving.Goals as goal

pub returns-then-o : goal.returns-then-o
unfolding saving_bits
returns-then-o c =
    let e = c.args.o.value in
    let f : c.unwrap_or.result ≡ value_or 0 (in_u8 e.frame_number) = rw c.held-frame.ensures at c.unwrap_or.ensures in
    let m : c.unwrap_or-then-o.result ≡ value_or 0 (in_u8 e.multiframe_number) = rw c.held-multiframe.ensures at c.unwrap_or-then-o.ensures in
    rw (c.if-o.true, ← f, ← m)
    (joined-twice c.then-p.ensures (joined-twice c.then-m.ensures (joined-twice c.then-f.ensures c.then.ensures)))
