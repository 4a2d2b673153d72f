-- `message_writers::typed_pdu_fields::write_type3` meets its contract.
use Rattle.std.proofs.Common.{arith}
use Rattle.bits.specs.BitsLaws.{length_digits}
use Rattle.bits.specs.DigitsLaws.{no_digits, ◌▹◌}
use Rattle.bits.specs.PutsLaws.{field, ◌⨾◌, nothing}
use Rattle.element_writers.specs.WrittenElements.{header-length, type3-few}
use Rattle.message_writers.proofs.typed_pdu_fields.write_type3.Goals as goal

pub returns-then-o : goal.returns-then-o
returns-then-o c =
    let a = c.args in
    let g = a.o.value in
    let h = header-length a.identifier g.len in
    rw c.if-o.true
    (field c.element_header.ensures (omega arith) c.put-c1.ensures
    ⨾ field (no_digits ▹ c.then.ensures) (rw (length_digits g.len g.«data») (type3-few a.o c.if-o.true c.requires)) c.put.ensures)

pub returns : goal.returns
returns c = rw c.if-o.false nothing
