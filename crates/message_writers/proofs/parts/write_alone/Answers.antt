-- `message_writers::parts::write_alone` meets its contract: the questions, and the message up to its O-bit. Assumes nothing.
use Rattle.bits.specs.PutsLaws.{field}
use Rattle.messages.specs.Calls.{description_of}
use Rattle.messages.proofs.ReadBack.{all_sound}
use Rattle.message_writers.proofs.MessageParts.{bits-alone, alone_answered}
use Rattle.message_writers.proofs.WritesLaws.{asking, message-written, message-handed_up}
use Rattle.message_writers.proofs.parts.write_alone.Goals as goal

pub returns-in_err-first_no : goal.returns-in_err-first_no
returns-in_err-first_no g c =
    let a = c.args in
    let q = asking (rw c.requires.0 (alone_answered (description_of g.M.Parts.message) (all_sound g.M.Parts.message) (g.M.Parts.values a.d.now) c.requires.1)) a.octets.now a.c c.first_no.result c.first_no.ensures in
    message-handed_up q _ c.in_err-first_no.was c.from_residual.ensures.1

pub returns : goal.returns
returns g c =
    let a = c.args in
    let d = description_of g.M.Parts.message in
    let s = all_sound g.M.Parts.message in
    let v = g.M.Parts.values a.d.now in
    let q = asking (rw c.requires.0 (alone_answered d s v c.requires.1)) a.octets.now a.c c.first_no.result c.first_no.ensures in
    message-written q (λ i. (c.slice_known-1.given i).fits) c.in_ok-first_no.was (bits-alone d s v c.requires.1)
    (field c.front.ensures.0 c.front.ensures.1 c.put.ensures)
