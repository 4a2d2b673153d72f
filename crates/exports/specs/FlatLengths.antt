-- How long the flat form of a message is.
use Rattle.std.specs.Prelude.{ℕ, ◌+◌, ◌*◌, ◌≤◌, ◌<◌, ◌≡◌, refl, true, false, ◌&&◌, List, length, leb}
use Rattle.std.proofs.Common.{arith, le-leb}
use Rattle.std.proofs.lemmas.Bool.{lt-leb}
use Rattle.elements.specs.Lists.{entries_most, each}
use Rattle.messages.specs.declared.Message.{Message}
use Rattle.messages.specs.declared.Message.TheVariants as M
use Rattle.messages.specs.declared.Record.{Record}
use Rattle.exports.specs.Flat.{flat_uplink, flat_downlink, flat_demand_generics, flat_demand, flat_accept_generics, flat_accept, flat_type4, flat_attach_detach, shown, shown_uplinks, shown_downlinks, flat_form}
use Rattle.exports.specs.FlatLaws.{length-list}

-- by the number of groups that it shows
abbrev pub form_length : Message → ℕ → ℕ
form_length M.Demand g = 371 + 46 * g
form_length M.Accept g = 245 + 56 * g
form_length M.AttachDetach g = 108 + 56 * g

-- that number
abbrev pub shown_in : Message → Record → ℕ
shown_in M.Demand r = shown_uplinks r.demand.group_identity_location_demand
shown_in M.Accept r = shown_downlinks r.accept.group_identity_location_accept
shown_in M.AttachDetach r = shown r.attach_detach.group_identity_downlink.present r.attach_detach.group_identity_downlink.count

-- the array of the message's list has all its entries
abbrev pub FullList : Message → Record → Type 0
FullList M.Demand r = length r.demand.group_identity_location_demand.value.group_identity_uplink.groups ≡ entries_most
FullList M.Accept r = length r.accept.group_identity_location_accept.value.group_identity_downlink.groups ≡ entries_most
FullList M.AttachDetach r = length r.attach_detach.group_identity_downlink.groups ≡ entries_most

abbrev pub Shows : Message → Record → ℕ → Type 0
Shows m r g = (g ≡ shown_in m r) × (g ≤ 63) × FullList m r

-- what stands behind the groups
abbrev pub behind_groups : Message → Record → List ℕ
behind_groups M.Demand r =
    flat_demand_generics r.demand.group_report_response r.demand.authentication_uplink r.demand.extended_capabilities r.demand.proprietary
behind_groups M.Accept r =
    flat_accept_generics r.accept.default_group_attachment_lifetime r.accept.authentication_downlink
    r.accept.group_identity_security_related_information r.accept.cell_type_control r.accept.proprietary
behind_groups M.AttachDetach r = flat_type4 r.attach_detach.group_identity_security_related_information

pub length-form : (m : Message) (n : ℕ) (r : Record) {g : ℕ} → Shows m r g → length (flat_form m n r) ≡ form_length m g
unfolding each flat_demand flat_accept flat_attach_detach
length-form M.Demand n r s =
    let o = r.demand.group_identity_location_demand in
    let l = o.value.group_identity_uplink in
    omega (arith, s.0, length-list flat_uplink 46 (λ g. refl) (o.present && l.present) l.count l.groups (behind_groups M.Demand r) s.2)
length-form M.Accept n r s =
    let o = r.accept.group_identity_location_accept in
    let l = o.value.group_identity_downlink in
    omega (arith, s.0, length-list flat_downlink 56 (λ g. refl) (o.present && l.present) l.count l.groups (behind_groups M.Accept r) s.2)
length-form M.AttachDetach n r s =
    let l = r.attach_detach.group_identity_downlink in
    omega (arith, s.0, length-list flat_downlink 56 (λ g. refl) l.present l.count l.groups (behind_groups M.AttachDetach r) s.2)

-- whether a buffer has room for it
module _ (m : Message) (n : ℕ) (r : Record) (flat : List ℕ) {g : ℕ} (s : Shows m r g) where
  pub no-room : length flat < form_length m g → leb (length (flat_form m n r)) (length flat) ≡ false
  no-room h = lt-leb _ _ (rw (length-form m n r s) h)

  pub room : form_length m g ≤ length flat → leb (length (flat_form m n r)) (length flat) ≡ true
  room h = le-leb _ _ (rw (length-form m n r s) h)
