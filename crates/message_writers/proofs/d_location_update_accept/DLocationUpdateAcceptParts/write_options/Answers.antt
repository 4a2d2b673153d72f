-- `message_writers::d_location_update_accept::DLocationUpdateAcceptParts::write_options` meets its contract: the type 2 elements in two fields. Assumes nothing.
use Rattle.std.proofs.Common.{arith}
use Rattle.bits.specs.PutsLaws.{field, ◌⨾◌}
use Rattle.messages.specs.Accept.{accept, accept_tie}
use Rattle.messages.specs.declared.Message.TheVariants as M
use Rattle.messages.proofs.ReadBack.{all_sound}
use Rattle.message_writers.proofs.PartsLaws.{two-joined, first-most, last-most}
use Rattle.message_writers.proofs.WritesLaws.{as_one}
use Rattle.message_writers.proofs.d_location_update_accept.DLocationUpdateAcceptParts.write_options.Goals as goal

pub returns : goal.returns
returns c =
    let os = (accept_tie.values c.args.«self».now).options in
    as_one _ (λ i. (c.slice_known-1.given i).fits) (two-joined 2 accept.options os) c.requires
    (field c.addresses.ensures (omega (arith, first-most 2 accept.options (all_sound M.Accept) os)) c.put-c1.ensures
    ⨾ field c.class_saving_and_scch.ensures (omega (arith, last-most 2 accept.options (all_sound M.Accept) os)) c.put.ensures)
