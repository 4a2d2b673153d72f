-- The flat form of a record, octet by octet (document 01, 'What must change shape').
use Rattle.std.specs.Prelude.{ℕ, ◌*◌, min, Bool, true, cond, ◌&&◌, List, [], ◌∷◌, ◌++◌, length, take, leb, Option, None, Some, is_some, Result, Ok, Err}
use Rattle.std.proofs.lemmas.List.Edits.{sets}
use Rattle.std.specs.Int.{w64, to_be_bytes}
use Rattle.bits.specs.declared.pdu_parse_error.PduParseErr.{PduParseErr}
use Rattle.bits.specs.PduParseError.{number_of, window_too_short}
use Rattle.elements.specs.Numbers.{value_or}
use Rattle.elements.specs.Groups.{uplink_address_in, downlink_address_in}
use Rattle.elements.specs.declared.group_address.GroupAddress.{GroupAddress}
use Rattle.bits.specs.Bits.{bit}
use Rattle.elements.specs.Lists.{each}
use Rattle.elements.specs.ClassOfMs.{class_fields}
use Rattle.elements.specs.declared.typed_pdu_fields.OptionalU8.{OptionalU8}
use Rattle.elements.specs.declared.typed_pdu_fields.OptionalU64.{OptionalU64}
use Rattle.elements.specs.declared.typed_pdu_fields.OptionalType3.{OptionalType3}
use Rattle.elements.specs.declared.typed_pdu_fields.OptionalType4.{OptionalType4}
use Rattle.elements.specs.declared.class_of_ms.OptionalClassOfMs.{OptionalClassOfMs}
use Rattle.elements.specs.declared.energy_saving_information.OptionalEnergySavingInformation.{OptionalEnergySavingInformation}
use Rattle.elements.specs.declared.group_identity_attachment.GroupIdentityAttachment.{GroupIdentityAttachment}
use Rattle.elements.specs.declared.group_identity_uplink.GroupIdentityUplink.{GroupIdentityUplink}
use Rattle.elements.specs.declared.group_identity_uplink.OptionalUplinks.{OptionalUplinks}
use Rattle.elements.specs.declared.group_identity_downlink.GroupIdentityDownlink.{GroupIdentityDownlink}
use Rattle.elements.specs.declared.group_identity_downlink.OptionalDownlinks.{OptionalDownlinks}
use Rattle.elements.specs.declared.group_identity_location_demand.OptionalLocationDemand.{OptionalLocationDemand}
use Rattle.elements.specs.declared.group_identity_location_accept.OptionalLocationAccept.{OptionalLocationAccept}
use Rattle.messages.specs.declared.Message.{Message}
use Rattle.messages.specs.declared.Message.TheVariants as M
use Rattle.messages.specs.declared.Record.{Record}
use Rattle.messages.specs.declared.Reading.{Reading}
use Rattle.messages.specs.declared.u_location_update_demand.ULocationUpdateDemand.{ULocationUpdateDemand}
use Rattle.messages.specs.declared.d_location_update_accept.DLocationUpdateAccept.{DLocationUpdateAccept}
use Rattle.messages.specs.declared.d_attach_detach_group_identity.DAttachDetachGroupIdentity.{DAttachDetachGroupIdentity}

-- A FIELD: presence and value, 8 octets with the high octet first; what is absent is all zeros
abbrev pub flat_field : Bool → ℕ → List ℕ
flat_field p v = bit p ∷ to_be_bytes w64 (cond p v 0)

-- a field of a number that may be absent
abbrev pub flat_option : Option ℕ → List ℕ
flat_option o = flat_field (is_some o) (value_or 0 o)

-- fields of one presence
abbrev pub flat_fields : Bool → List ℕ → List ℕ
flat_fields p = each (flat_field p)

-- ## elements

abbrev pub flat_u8 : OptionalU8 → List ℕ
flat_u8 o = flat_field o.present o.value

abbrev pub flat_u64 : OptionalU64 → List ℕ
flat_u64 o = flat_field o.present o.value

abbrev pub flat_type3 : OptionalType3 → List ℕ
flat_type3 o = flat_field o.present o.value.len ++ flat_field o.present o.value.«data»

abbrev pub flat_type4 : OptionalType4 → List ℕ
flat_type4 o = flat_field o.present o.value.len ++ (flat_field o.present o.value.elems ++ flat_field o.present o.value.«data»)

-- a structure: a presence octet and its fields
abbrev pub flat_class : OptionalClassOfMs → List ℕ
flat_class o = bit o.present ∷ flat_fields o.present (class_fields o.value)

abbrev pub flat_saving : OptionalEnergySavingInformation → List ℕ
flat_saving o =
    bit o.present ∷ flat_field o.present o.value.energy_saving_mode
    ++ (flat_field (o.present && o.value.frame_number.present) o.value.frame_number.value
    ++ flat_field (o.present && o.value.multiframe_number.present) o.value.multiframe_number.value)

-- ## groups and lists

abbrev pub flat_address : GroupAddress → List ℕ
flat_address a = flat_option a.gssi ++ (flat_option a.address_extension ++ flat_option a.vgssi)

abbrev pub flat_attachment : Bool → GroupIdentityAttachment → List ℕ
flat_attachment p t = bit p ∷ flat_field p t.group_identity_attachment_lifetime ++ flat_field p t.class_of_usage

abbrev pub flat_uplink : GroupIdentityUplink → List ℕ
flat_uplink g =
    1 ∷ flat_field g.class_of_usage_present g.class_of_usage
    ++ (flat_field g.group_identity_detachment_uplink_present g.group_identity_detachment_uplink
    ++ flat_address (uplink_address_in g))

abbrev pub flat_downlink : GroupIdentityDownlink → List ℕ
flat_downlink g =
    1 ∷ flat_attachment g.group_identity_attachment_present g.group_identity_attachment
    ++ (flat_field g.group_identity_detachment_uplink_present g.group_identity_detachment_uplink
    ++ flat_address (downlink_address_in g))

-- a list: its count, and as many groups
abbrev pub flat_list : {G : Type 0} → (G → List ℕ) → Bool → ℕ → List G → List ℕ
flat_list flat p n gs = flat_field p n ++ cond p (each flat (take n gs)) []

abbrev pub flat_uplinks : Bool → OptionalUplinks → List ℕ
flat_uplinks p l = flat_list flat_uplink p l.count l.groups

abbrev pub flat_downlinks : Bool → OptionalDownlinks → List ℕ
flat_downlinks p l = flat_list flat_downlink p l.count l.groups

abbrev pub flat_location_demand : OptionalLocationDemand → List ℕ
flat_location_demand o =
    bit o.present ∷ flat_field o.present o.value.group_identity_attach_detach_mode
    ++ flat_uplinks (o.present && o.value.group_identity_uplink.present) o.value.group_identity_uplink

abbrev pub flat_location_accept : OptionalLocationAccept → List ℕ
flat_location_accept o =
    bit o.present ∷ flat_field o.present o.value.group_identity_accept_reject
    ++ flat_downlinks (o.present && o.value.group_identity_downlink.present) o.value.group_identity_downlink

-- how many groups the form shows
abbrev pub shown : Bool → ℕ → ℕ
shown p n = cond p (min n 63) 0

abbrev pub shown_uplinks : OptionalLocationDemand → ℕ
shown_uplinks o = shown (o.present && o.value.group_identity_uplink.present) o.value.group_identity_uplink.count

abbrev pub shown_downlinks : OptionalLocationAccept → ℕ
shown_downlinks o = shown (o.present && o.value.group_identity_downlink.present) o.value.group_identity_downlink.count

-- ## the messages: the count skipped, and the record

abbrev pub flat_demand_head : ℕ → ℕ → ℕ → ℕ → OptionalU64 → List ℕ
flat_demand_head skipped type append control ciphering =
    flat_field true skipped ++ (flat_field true type ++ (flat_field true append ++ (flat_field true control ++ flat_u64 ciphering)))

abbrev pub flat_demand_options : OptionalU8 → OptionalU64 → OptionalU64 → OptionalU64 → List ℕ
flat_demand_options mode la ssi extension = flat_u8 mode ++ (flat_u64 la ++ (flat_u64 ssi ++ flat_u64 extension))

abbrev pub flat_demand_generics : OptionalType3 → OptionalType3 → OptionalType3 → OptionalType3 → List ℕ
flat_demand_generics response authentication capabilities proprietary =
    flat_type3 response ++ (flat_type3 authentication ++ (flat_type3 capabilities ++ flat_type3 proprietary))

unfoldable pub flat_demand : ℕ → ULocationUpdateDemand → List ℕ
flat_demand skipped r =
    flat_demand_head skipped r.location_update_type r.request_to_append_la r.cipher_control r.ciphering_parameters
    ++ (flat_class r.class_of_ms ++ (flat_demand_options r.energy_saving_mode r.la_information r.ssi r.address_extension
    ++ (flat_location_demand r.group_identity_location_demand
    ++ flat_demand_generics r.group_report_response r.authentication_uplink r.extended_capabilities r.proprietary)))

abbrev pub flat_accept_head : ℕ → ℕ → OptionalU64 → OptionalU64 → OptionalU64 → List ℕ
flat_accept_head skipped type ssi extension subscriber =
    flat_field true skipped ++ (flat_field true type ++ (flat_u64 ssi ++ (flat_u64 extension ++ flat_u64 subscriber)))

abbrev pub flat_accept_front : OptionalEnergySavingInformation → OptionalU64 → OptionalType4 → OptionalType3 → List ℕ
flat_accept_front saving scch area security = flat_saving saving ++ (flat_u64 scch ++ (flat_type4 area ++ flat_type3 security))

abbrev pub flat_accept_generics : OptionalType3 → OptionalType3 → OptionalType4 → OptionalType3 → OptionalType3 → List ℕ
flat_accept_generics lifetime authentication security cell proprietary =
    flat_type3 lifetime ++ (flat_type3 authentication ++ (flat_type4 security ++ (flat_type3 cell ++ flat_type3 proprietary)))

unfoldable pub flat_accept : ℕ → DLocationUpdateAccept → List ℕ
flat_accept skipped r =
    flat_accept_head skipped r.location_update_accept_type r.ssi r.address_extension r.subscriber_class
    ++ (flat_accept_front r.energy_saving_information r.scch_information_and_distribution_on_18th_frame r.new_registered_area r.security_downlink
    ++ (flat_location_accept r.group_identity_location_accept
    ++ flat_accept_generics r.default_group_attachment_lifetime r.authentication_downlink r.group_identity_security_related_information
    r.cell_type_control r.proprietary))

abbrev pub flat_attach_detach_head : ℕ → ℕ → ℕ → ℕ → List ℕ
flat_attach_detach_head skipped report acknowledgement mode =
    flat_field true skipped ++ (flat_field true report ++ (flat_field true acknowledgement ++ flat_field true mode))

unfoldable pub flat_attach_detach : ℕ → DAttachDetachGroupIdentity → List ℕ
flat_attach_detach skipped r =
    flat_attach_detach_head skipped r.group_identity_report r.group_identity_acknowledgement_request r.group_identity_attach_detach_mode
    ++ (flat_type3 r.proprietary ++ (flat_type3 r.group_report_response
    ++ (flat_downlinks r.group_identity_downlink.present r.group_identity_downlink ++ flat_type4 r.group_identity_security_related_information)))

-- ## the call

abbrev pub flat_form : Message → ℕ → Record → List ℕ
flat_form M.Demand skipped r = flat_demand skipped r.demand
flat_form M.Accept skipped r = flat_accept skipped r.accept
flat_form M.AttachDetach skipped r = flat_attach_detach skipped r.attach_detach

-- a number that names no message has none
abbrev pub form_by : Option Message → ℕ → Record → List ℕ
form_by None skipped r = []
form_by (Some m) skipped r = flat_form m skipped r

-- 64 × the bits consumed or written, or the refusal's number
abbrev pub numbered : Result ℕ PduParseErr → ℕ
numbered (Ok n) = 64 * n
numbered (Err e) = number_of e

-- a buffer too short gives 16 after every other question
abbrev pub result_of : Result Unit PduParseErr → ℕ → Bool → ℕ
result_of (Ok z) consumed fits = cond fits (64 * consumed) (number_of window_too_short)
result_of (Err e) consumed fits = number_of e

-- the flat form at the buffer's front, the octets past it kept; any refusal keeps all
abbrev pub buffer_of : Result Unit PduParseErr → Bool → List ℕ → List ℕ → List ℕ
buffer_of (Ok z) fits form flat = cond fits (sets flat 0 form) flat
buffer_of (Err e) fits form flat = flat

module _ (m : Option Message) (r : Reading) (flat : List ℕ) where
  abbrev form : List ℕ
  form = form_by m r.skipped r.«record»

  -- THE RESULT of reading into a buffer, by the message that was asked for, and THE BUFFER afterwards
  unfoldable pub read_result : ℕ
  read_result = result_of r.verdict r.consumed (leb (length form) (length flat))

  unfoldable pub read_buffer : List ℕ
  read_buffer = buffer_of r.verdict (leb (length form) (length flat)) form flat
