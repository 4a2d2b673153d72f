-- `message_writers::d_attach_detach_group_identity::DAttachDetachGroupIdentityParts::write_elements` meets its contract: the listed elements, one after the other. Assumes nothing.
use Rattle.std.specs.Prelude.{ℕ}
use Rattle.std.proofs.Common.{ap}
use Rattle.bits.specs.PutsLaws.{◌⨾◌}
use Rattle.messages.specs.Questions.{fits}
use Rattle.messages.specs.AttachDetach.{attach_detach, attach_detach_tie}
use Rattle.message_writers.proofs.SlotsAsked.{each_asked, slots-joined}
use Rattle.message_writers.proofs.WritesLaws.{as_one}
use Rattle.message_writers.proofs.d_attach_detach_group_identity.DAttachDetachGroupIdentityParts.write_elements.Goals as goal

pub write_type3-c1-requires : goal.write_type3-c1-requires
write_type3-c1-requires c = (each_asked attach_detach.table (attach_detach_tie.values c.args.«self».now).slots fits c.requires.fit).0

pub write_type3-c2-requires : goal.write_type3-c2-requires
write_type3-c2-requires c = (each_asked attach_detach.table (attach_detach_tie.values c.args.«self».now).slots fits c.requires.fit).1.0

pub returns : goal.returns
returns c =
    let list = ap (λ (x : ℕ × ℕ). x.0) c.requires.lengths in
    as_one _ (λ i. (c.slice_known-1.given i).fits) (slots-joined attach_detach.table (attach_detach_tie.values c.args.«self».now).slots c.requires.only) c.requires.room
    (c.write_type3-c1.ensures ⨾ c.write_type3-c2.ensures ⨾ (rw list at c.write_downlinks-c3.ensures) ⨾ c.write_closing_mbit.ensures)
