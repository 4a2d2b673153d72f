-- `message_writers::write` meets its contract: the list's array has 63 places by its type. Assumes nothing.
use native.Mathlib.Omega.{arith}
use mathlib.Core.Path.{◌≡◌, sym, ap, ◌∙◌}
use Rattle.std.specs.Prelude.{length}
use Rattle.elements.specs.Lists.{entries_most}
use Rattle.messages.specs.Demand.{demand}
use Rattle.messages.specs.Accept.{accept}
use Rattle.messages.specs.AttachDetach.{attach_detach}
use Rattle.messages.specs.Calls.{values_of, written_as, octets_as, writing_refusal}
use Rattle.messages.specs.declared.Message.TheVariants as M
use Rattle.messages.specs.declared.Writing.{Writing}
use Rattle.messages.proofs.CallNumbers.{accepted-refused}
use Rattle.messages.proofs.SlotsLaws.{full_slots}
use Rattle.messages.proofs.RoundTrip.{written_back}
use Rattle.message_writers.proofs.CallsLaws.{known_write, unknown_write}
use Rattle.message_writers.proofs.write.Goals as goal

pub returns-in-Some-Demand : goal.returns-in-Some-Demand
unfolding written_as octets_as writing_refusal
returns-in-Some-Demand c =
    let a = c.args in
    let known = rw c.in-Some-Demand.field-0-is at (sym c.in-Some-Demand.ensures) in
    let call = known_write a.message a.octets.now a.first a.end a.held known in
    let w = c.write_as.ensures in
    let full : length a.held.demand.group_identity_location_demand.value.group_identity_uplink.groups ≡ entries_most = omega arith in
    let arrays = full_slots demand.table (values_of M.Demand a.held).slots (full, (tt, (tt, (tt, (tt, tt))))) in
    record {
      answer = w.answer ∙ call.0;
      octets = w.octets ∙ call.1;
      round_trip = written_back a.message M.Demand known a.octets.now a.first a.end a.held arrays w.answer w.octets;
    }

pub returns-in-Some-Accept : goal.returns-in-Some-Accept
unfolding written_as octets_as writing_refusal
returns-in-Some-Accept c =
    let a = c.args in
    let known = rw c.in-Some-Accept.field-0-is at (sym c.in-Some-Accept.ensures) in
    let call = known_write a.message a.octets.now a.first a.end a.held known in
    let w = c.write_as-in-Some-Accept.ensures in
    let full : length a.held.accept.group_identity_location_accept.value.group_identity_downlink.groups ≡ entries_most = omega arith in
    let arrays = full_slots accept.table (values_of M.Accept a.held).slots (tt, (tt, (full, (tt, (tt, (tt, (tt, (tt, tt)))))))) in
    record {
      answer = w.answer ∙ call.0;
      octets = w.octets ∙ call.1;
      round_trip = written_back a.message M.Accept known a.octets.now a.first a.end a.held arrays w.answer w.octets;
    }

pub returns-in-Some-AttachDetach : goal.returns-in-Some-AttachDetach
unfolding written_as octets_as writing_refusal
returns-in-Some-AttachDetach c =
    let a = c.args in
    let known = rw c.in-Some-AttachDetach.field-0-is at (sym c.in-Some-AttachDetach.ensures) in
    let call = known_write a.message a.octets.now a.first a.end a.held known in
    let w = c.write_as-in-Some-AttachDetach.ensures in
    let full : length a.held.attach_detach.group_identity_downlink.groups ≡ entries_most = omega arith in
    let arrays = full_slots attach_detach.table (values_of M.AttachDetach a.held).slots (tt, (tt, (full, (tt, tt)))) in
    record {
      answer = w.answer ∙ call.0;
      octets = w.octets ∙ call.1;
      round_trip = written_back a.message M.AttachDetach known a.octets.now a.first a.end a.held arrays w.answer w.octets;
    }

pub returns-in-None : goal.returns-in-None
returns-in-None c =
    let a = c.args in
    let call = unknown_write a.message a.octets.now a.first a.end a.held (sym c.in-None.ensures) in
    record {
      answer = c.refused.ensures ∙ call.0;
      octets = call.1;
      round_trip = λ v. accepted-refused (sym v ∙ ap (λ (w : Writing). w.verdict) c.refused.ensures);
    }
