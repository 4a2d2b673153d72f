-- `message_writers::parts::write_more` meets its contract: the questions, then the message's three parts, for each of which there is room.
use Rattle.bits.specs.PlacedLaws.{Fact, fact}
use Rattle.bits.specs.PutsLaws.{field, ◌⨾◌}
use Rattle.messages.specs.Description.{bits, asked as asked_of}
use Rattle.messages.specs.Calls.{description_of}
use Rattle.messages.proofs.ReadBack.{all_sound}
use Rattle.message_writers.proofs.MessageParts.{bits-more, more_answered, rooms}
use Rattle.message_writers.proofs.WritesLaws.{asking, all-passed, message-written, message-handed_up, left-behind}
use Rattle.message_writers.proofs.parts.write_more.Goals as goal
use Rattle.message_writers.proofs.parts.write_more.Goals.{After-first_no}
use Rattle.message_writers.proofs.parts.write_more.Given.{Over}

-- what the questions answer
abbrev asked : (g : Over) → After-first_no g → Fact
asked g c =
    let a = c.args in
    let d = description_of g.M.Parts.message in
    let s = all_sound g.M.Parts.message in
    let v = g.M.Parts.values a.d.now in
    fact (asking {a = asked_of d v} {xs = bits d v} (rw (c.requires.0, c.ask_options-options.ensures.0, c.ask_elements-e.ensures.0) (more_answered d s v c.requires.2)) a.octets.now a.c c.first_no.result c.first_no.ensures)

pub returns-in_err-first_no : goal.returns-in_err-first_no
returns-in_err-first_no g c =
    message-handed_up (asked g ((goal.at.returns-in_err-first_no g c).After-first_no)).holds _ c.in_err-first_no.was c.from_residual.ensures.1

pub write_options-c2-requires : goal.write_options-c2-requires
write_options-c2-requires g c =
    let a = c.args in
    let q = (asked g ((goal.at.write_options-c2-requires g c).After-first_no)).holds in
    let room = rooms (description_of g.M.Parts.message) (all_sound g.M.Parts.message) (g.M.Parts.values a.d.now) c.requires.2 (all-passed q c.in_ok-first_no.was) in
    let b = left-behind (λ i. (c.slice_known-1.given i).fits) room.front (field c.front.ensures.0 c.front.ensures.1 c.put-c1.ensures) in
    rw b.room room.options

pub write_elements-requires : goal.write_elements-requires
write_elements-requires g c =
    let a = c.args in
    let q = (asked g ((goal.at.write_elements-requires g c).After-first_no)).holds in
    let room = rooms (description_of g.M.Parts.message) (all_sound g.M.Parts.message) (g.M.Parts.values a.d.now) c.requires.2 (all-passed q c.in_ok-first_no.was) in
    let b = left-behind (λ i. (c.slice_known-1.given i).fits) room.front (field c.front.ensures.0 c.front.ensures.1 c.put-c1.ensures) in
    let d = left-behind b.octets (rw b.room room.options) c.write_options-c2.ensures in
    record {
      fit = room.fit;
      only = room.only;
      lengths = rw c.ask_elements-e.ensures.0;
      room = rw (d.room, b.room) room.elements;
    }

pub returns : goal.returns
returns g c =
    let a = c.args in
    let q = (asked g ((goal.at.returns g c).After-first_no)).holds in
    message-written q (λ i. (c.slice_known-1.given i).fits) c.in_ok-first_no.was (bits-more (description_of g.M.Parts.message) (all_sound g.M.Parts.message) (g.M.Parts.values a.d.now) c.requires.2)
    (field c.front.ensures.0 c.front.ensures.1 c.put-c1.ensures ⨾ (c.write_options-c2.ensures ⨾ c.write_elements.ensures))
