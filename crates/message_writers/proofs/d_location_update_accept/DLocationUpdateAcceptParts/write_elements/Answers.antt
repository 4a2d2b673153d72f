-- `message_writers::d_location_update_accept::DLocationUpdateAcceptParts::write_elements` meets its contract: the listed elements, one after the other. Assumes nothing.
use Rattle.std.specs.Prelude.{ℕ}
use Rattle.std.proofs.Common.{ap}
use Rattle.bits.specs.PutsLaws.{◌⨾◌}
use Rattle.messages.specs.Questions.{fits}
use Rattle.messages.specs.Accept.{accept, accept_tie}
use Rattle.message_writers.proofs.SlotsAsked.{each_asked, slots-joined}
use Rattle.message_writers.proofs.WritesLaws.{as_one}
use Rattle.message_writers.proofs.d_location_update_accept.DLocationUpdateAcceptParts.write_elements.Goals as goal

pub write_type3-c1-requires : goal.write_type3-c1-requires
write_type3-c1-requires c = (each_asked accept.table (accept_tie.values c.args.«self».now).slots fits c.requires.fit).1.0

pub write_type3-c3-requires : goal.write_type3-c3-requires
write_type3-c3-requires c = (each_asked accept.table (accept_tie.values c.args.«self».now).slots fits c.requires.fit).1.1.1.0

pub write_type3-c4-requires : goal.write_type3-c4-requires
write_type3-c4-requires c = (each_asked accept.table (accept_tie.values c.args.«self».now).slots fits c.requires.fit).1.1.1.1.0

pub write_type3-c5-requires : goal.write_type3-c5-requires
write_type3-c5-requires c = (each_asked accept.table (accept_tie.values c.args.«self».now).slots fits c.requires.fit).1.1.1.1.1.1.0

pub write_type3-c6-requires : goal.write_type3-c6-requires
write_type3-c6-requires c = (each_asked accept.table (accept_tie.values c.args.«self».now).slots fits c.requires.fit).1.1.1.1.1.1.1.0

pub returns : goal.returns
returns c =
    let list = ap (λ (x : ℕ × ℕ). x.0) c.requires.lengths in
    let content = ap (λ (x : ℕ × ℕ). x.1) c.requires.lengths in
    as_one _ (λ i. (c.slice_known-1.given i).fits) (slots-joined accept.table (accept_tie.values c.args.«self».now).slots c.requires.only) c.requires.room
    (c.write_type3-c1.ensures ⨾ (rw (list, content) at c.write_location_accept-c2.ensures) ⨾ c.write_type3-c3.ensures ⨾ c.write_type3-c4.ensures ⨾ c.write_type3-c5.ensures ⨾ c.write_type3-c6.ensures ⨾ c.write_closing_mbit.ensures)
