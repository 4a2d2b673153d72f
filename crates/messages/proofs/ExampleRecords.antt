-- The records of the messages to try, by the names of the declared fields: no definition that is under test makes a part of them.
use Rattle.std.specs.Prelude.{ℕ, ◌+◌, ◌-◌, ◌*◌, true, false, cond, List, [], ◌∷◌, ◌++◌, length, replicate, eqb, is_some, unwrap_or}
use Rattle.std.specs.Prelude.{Option, None, Some}
use Rattle.elements.specs.declared.typed_pdu_fields.OptionalU8.{OptionalU8}
use Rattle.elements.specs.declared.typed_pdu_fields.OptionalU64.{OptionalU64}
use Rattle.elements.specs.declared.typed_pdu_fields.OptionalType3.{OptionalType3}
use Rattle.elements.specs.declared.typed_pdu_fields.OptionalType4.{OptionalType4}
use Rattle.elements.specs.declared.class_of_ms.ClassOfMs.{ClassOfMs}
use Rattle.elements.specs.declared.class_of_ms.OptionalClassOfMs.{OptionalClassOfMs}
use Rattle.elements.specs.declared.energy_saving_information.OptionalEnergySavingInformation.{OptionalEnergySavingInformation}
use Rattle.elements.specs.declared.group_identity_attachment.GroupIdentityAttachment.{GroupIdentityAttachment}
use Rattle.elements.specs.declared.group_identity_uplink.GroupIdentityUplink.{GroupIdentityUplink}
use Rattle.elements.specs.declared.group_identity_uplink.OptionalUplinks.{OptionalUplinks}
use Rattle.elements.specs.declared.group_identity_downlink.GroupIdentityDownlink.{GroupIdentityDownlink}
use Rattle.elements.specs.declared.group_identity_downlink.OptionalDownlinks.{OptionalDownlinks}
use Rattle.elements.specs.declared.group_identity_location_demand.OptionalLocationDemand.{OptionalLocationDemand}
use Rattle.elements.specs.declared.group_identity_location_accept.OptionalLocationAccept.{OptionalLocationAccept}
use Rattle.messages.specs.declared.u_location_update_demand.ULocationUpdateDemand.{ULocationUpdateDemand}
use Rattle.messages.specs.declared.d_location_update_accept.DLocationUpdateAccept.{DLocationUpdateAccept}
use Rattle.messages.specs.declared.d_attach_detach_group_identity.DAttachDetachGroupIdentity.{DAttachDetachGroupIdentity}
use Rattle.messages.specs.declared.Record.{Record}

-- ## numbers and generic elements

abbrev pub in8 : Option ℕ → OptionalU8
in8 o = record { present = is_some o; value = unwrap_or o 0 }

abbrev pub in64 : Option ℕ → OptionalU64
in64 o = record { present = is_some o; value = unwrap_or o 0 }

-- a length, and data
abbrev pub a_type3 : ℕ → ℕ → OptionalType3
a_type3 l d = record { present = true; value = record { len = l; «data» = d } }

abbrev pub no_type3 : OptionalType3
no_type3 = record { present = false; value = record { len = 0; «data» = 0 } }

-- a length, a number of entries, and data
abbrev pub a_type4 : ℕ → ℕ → ℕ → OptionalType4
a_type4 l n d = record { present = true; value = record { len = l; elems = n; «data» = d } }

abbrev pub no_type4 : OptionalType4
no_type4 = record { present = false; value = record { len = 0; elems = 0; «data» = 0 } }

-- ## class of MS

-- of its 24 bits by their number, the top one 0
abbrev pub class_at : (ℕ → ℕ) → ClassOfMs
class_at b = record {
  freq_simplex_duplex = b 0;
  multislot_phase_mod = b 1;
  concurrent_multicarrier = b 2;
  voice = b 3;
  e2e_encryption_not_supported = b 4;
  circuit_mode_data = b 5;
  tetra_packet_data = b 6;
  fast_switching = b 7;
  dck_encryption = b 8;
  clch_needed = b 9;
  concurrent_circuit_mode = b 10;
  original_advanced_link = b 11;
  minimum_mode = b 12;
  carrier_specific_signalling = b 13;
  authentication = b 14;
  sck_encryption = b 15;
  air_interface_version = 4 * b 16 + (2 * b 17 + b 18);
  common_scch = b 19;
  reserved_21 = b 20;
  mac_d_blck = b 21;
  extended_advanced_link = b 22;
  d8psk = b 23;
}

-- one bit alone
abbrev pub only : ℕ → ClassOfMs
only n = class_at (λ i. cond (eqb i n) 1 0)

abbrev pub no_class : ClassOfMs
no_class = class_at (λ i. 0)

abbrev pub version_7 : ClassOfMs
version_7 = class_at (λ i. cond (eqb i 16) 1 (cond (eqb i 17) 1 (cond (eqb i 18) 1 0)))

-- the word 972D66: version 3
abbrev pub full_class : ClassOfMs
full_class = record {
  freq_simplex_duplex = 1;
  multislot_phase_mod = 0;
  concurrent_multicarrier = 0;
  voice = 1;
  e2e_encryption_not_supported = 0;
  circuit_mode_data = 1;
  tetra_packet_data = 1;
  fast_switching = 1;
  dck_encryption = 0;
  clch_needed = 0;
  concurrent_circuit_mode = 1;
  original_advanced_link = 0;
  minimum_mode = 1;
  carrier_specific_signalling = 1;
  authentication = 0;
  sck_encryption = 1;
  air_interface_version = 3;
  common_scch = 0;
  reserved_21 = 0;
  mac_d_blck = 1;
  extended_advanced_link = 1;
  d8psk = 0;
}

abbrev pub a_class : ClassOfMs → OptionalClassOfMs
a_class m = record { present = true; value = m }

abbrev pub absent_class : OptionalClassOfMs
absent_class = record { present = false; value = no_class }

-- ## energy saving

-- a mode, a frame and a multiframe
abbrev pub a_saving : ℕ → Option ℕ → Option ℕ → OptionalEnergySavingInformation
a_saving m f n = record { present = true; value = record { energy_saving_mode = m; frame_number = in8 f; multiframe_number = in8 n } }

abbrev pub no_saving : OptionalEnergySavingInformation
no_saving = record { present = false; value = record { energy_saving_mode = 0; frame_number = in8 None; multiframe_number = in8 None } }

-- ## groups

-- a class of usage, a detachment, and the address: GSSI, extension, VGSSI
abbrev pub uplink_with : Option ℕ → Option ℕ → Option ℕ → Option ℕ → Option ℕ → GroupIdentityUplink
uplink_with c d g e v = record {
  gssi = unwrap_or g 0;
  address_extension = unwrap_or e 0;
  vgssi = unwrap_or v 0;
  class_of_usage = unwrap_or c 0;
  class_of_usage_present = is_some c;
  group_identity_detachment_uplink_present = is_some d;
  group_identity_detachment_uplink = unwrap_or d 0;
  gssi_present = is_some g;
  address_extension_present = is_some e;
  vgssi_present = is_some v;
}

-- a lifetime and a class of usage
abbrev pub attachment_with : ℕ → ℕ → GroupIdentityAttachment
attachment_with l c = record { group_identity_attachment_lifetime = l; class_of_usage = c }

-- an attachment, a detachment, and the address
abbrev pub downlink_with : Option GroupIdentityAttachment → Option ℕ → Option ℕ → Option ℕ → Option ℕ → GroupIdentityDownlink
downlink_with t d g e v = record {
  gssi = unwrap_or g 0;
  address_extension = unwrap_or e 0;
  vgssi = unwrap_or v 0;
  group_identity_attachment_present = is_some t;
  group_identity_attachment = unwrap_or t (attachment_with 0 0);
  group_identity_detachment_uplink_present = is_some d;
  group_identity_detachment_uplink = unwrap_or d 0;
  gssi_present = is_some g;
  address_extension_present = is_some e;
  vgssi_present = is_some v;
}

-- the array of 63 behind the groups that are there
abbrev pub uplink_array : List GroupIdentityUplink → List GroupIdentityUplink
uplink_array gs = gs ++ replicate (63 - length gs) (uplink_with None None None None None)

abbrev pub downlink_array : List GroupIdentityDownlink → List GroupIdentityDownlink
downlink_array gs = gs ++ replicate (63 - length gs) (downlink_with None None None None None)

abbrev pub these_uplinks : List GroupIdentityUplink → OptionalUplinks
these_uplinks gs = record { present = true; count = length gs; groups = uplink_array gs }

abbrev pub no_uplinks : OptionalUplinks
no_uplinks = record { present = false; count = 0; groups = uplink_array [] }

abbrev pub these_downlinks : List GroupIdentityDownlink → OptionalDownlinks
these_downlinks gs = record { present = true; count = length gs; groups = downlink_array gs }

abbrev pub no_downlinks : OptionalDownlinks
no_downlinks = record { present = false; count = 0; groups = downlink_array [] }

-- each address type, attached and then detached; in a group no two fields of one width hold the same number
abbrev pub uplink_groups : List GroupIdentityUplink
uplink_groups =
    uplink_with (Some 1) None (Some 1048577) None None
    ∷ uplink_with (Some 2) None (Some 2097154) (Some 2097155) None
    ∷ uplink_with (Some 4) None None None (Some 3145732)
    ∷ uplink_with None (Some 1) (Some 4194309) None None
    ∷ uplink_with None (Some 2) (Some 5242886) (Some 5242887) None
    ∷ uplink_with None (Some 3) None None (Some 6291464)
    ∷ []

abbrev pub downlink_groups : List GroupIdentityDownlink
downlink_groups =
    downlink_with (Some (attachment_with 1 7)) None (Some 1048577) None None
    ∷ downlink_with (Some (attachment_with 2 1)) None (Some 2097154) (Some 2097155) None
    ∷ downlink_with (Some (attachment_with 3 2)) None None None (Some 3145732)
    ∷ downlink_with (Some (attachment_with 0 4)) None (Some 4194309) (Some 4194310) (Some 4194311)
    ∷ downlink_with None (Some 3) (Some 5242888) None None
    ∷ downlink_with None (Some 2) (Some 6291465) (Some 6291466) None
    ∷ downlink_with None (Some 1) None None (Some 7340043)
    ∷ downlink_with None (Some 0) (Some 8388620) (Some 8388621) (Some 8388622)
    ∷ []

-- a mode and a list
abbrev pub a_location_demand : ℕ → OptionalUplinks → OptionalLocationDemand
a_location_demand m l = record { present = true; value = record { group_identity_attach_detach_mode = m; group_identity_uplink = l } }

abbrev pub no_location_demand : OptionalLocationDemand
no_location_demand = record { present = false; value = record { group_identity_attach_detach_mode = 0; group_identity_uplink = no_uplinks } }

-- accepted or rejected, and a list
abbrev pub a_location_accept : ℕ → OptionalDownlinks → OptionalLocationAccept
a_location_accept a l = record { present = true; value = record { group_identity_accept_reject = a; group_identity_downlink = l } }

abbrev pub no_location_accept : OptionalLocationAccept
no_location_accept = record { present = false; value = record { group_identity_accept_reject = 0; group_identity_downlink = no_downlinks } }

-- ## demands

-- an update type, a cipher control, ciphering parameters, an SSI, a group report response and a location demand
abbrev pub demand_with : ℕ → ℕ → OptionalU64 → OptionalU64 → OptionalType3 → OptionalLocationDemand → ULocationUpdateDemand
demand_with u c p s g l = record {
  location_update_type = u;
  request_to_append_la = 0;
  cipher_control = c;
  ciphering_parameters = p;
  class_of_ms = absent_class;
  energy_saving_mode = in8 None;
  la_information = in64 None;
  ssi = s;
  address_extension = in64 None;
  group_identity_location_demand = l;
  group_report_response = g;
  authentication_uplink = no_type3;
  extended_capabilities = no_type3;
  proprietary = no_type3;
}

-- a number of its own in each field
abbrev pub demand_full : ULocationUpdateDemand
demand_full = record {
  location_update_type = 6;
  request_to_append_la = 0;
  cipher_control = 1;
  ciphering_parameters = in64 (Some 677);
  class_of_ms = a_class full_class;
  energy_saving_mode = in8 (Some 5);
  la_information = in64 (Some 6699);
  ssi = in64 (Some 1193046);
  address_extension = in64 (Some 7903932);
  group_identity_location_demand = a_location_demand 1 (these_uplinks uplink_groups);
  group_report_response = a_type3 5 19;
  authentication_uplink = a_type3 7 100;
  extended_capabilities = a_type3 12 2748;
  proprietary = a_type3 64 81985529216486895;
}

-- one-bit fields the other way round; a location demand with no list; generic elements of 0 and of 70 bits
abbrev pub demand_other : ULocationUpdateDemand
demand_other = record {
  location_update_type = 1;
  request_to_append_la = 1;
  cipher_control = 0;
  ciphering_parameters = in64 None;
  class_of_ms = absent_class;
  energy_saving_mode = in8 None;
  la_information = in64 (Some 6699);
  ssi = in64 None;
  address_extension = in64 None;
  group_identity_location_demand = a_location_demand 1 no_uplinks;
  group_report_response = a_type3 0 0;
  authentication_uplink = no_type3;
  extended_capabilities = no_type3;
  proprietary = a_type3 70 9223372036854775809;
}

-- ## accepts

-- an accept type and energy saving
abbrev pub accept_with : ℕ → OptionalEnergySavingInformation → DLocationUpdateAccept
accept_with u m = record {
  location_update_accept_type = u;
  ssi = in64 None;
  address_extension = in64 None;
  subscriber_class = in64 None;
  energy_saving_information = m;
  scch_information_and_distribution_on_18th_frame = in64 None;
  new_registered_area = no_type4;
  security_downlink = no_type3;
  group_identity_location_accept = no_location_accept;
  default_group_attachment_lifetime = no_type3;
  authentication_downlink = no_type3;
  group_identity_security_related_information = no_type4;
  cell_type_control = no_type3;
  proprietary = no_type3;
}

-- a number of its own in each field; the two generic type 4 elements
abbrev pub accept_full : OptionalType4 → OptionalType4 → DLocationUpdateAccept
accept_full area security = record {
  location_update_accept_type = 6;
  ssi = in64 (Some 990765);
  address_extension = in64 (Some 3951450);
  subscriber_class = in64 (Some 48879);
  energy_saving_information = a_saving 5 (Some 19) (Some 44);
  scch_information_and_distribution_on_18th_frame = in64 (Some 27);
  new_registered_area = area;
  security_downlink = a_type3 6 33;
  group_identity_location_accept = a_location_accept 1 (these_downlinks downlink_groups);
  default_group_attachment_lifetime = a_type3 9 290;
  authentication_downlink = a_type3 10 777;
  group_identity_security_related_information = security;
  cell_type_control = a_type3 14 9999;
  proprietary = a_type3 17 70007;
}

-- ## attach/detach

-- the three bits of the head, two generic type 3 elements, a list, and a generic type 4 element
abbrev pub attach_detach_with : ℕ → ℕ → ℕ → OptionalType3 → OptionalType3 → OptionalDownlinks → OptionalType4 → DAttachDetachGroupIdentity
attach_detach_with r a m p g l s = record {
  group_identity_report = r;
  group_identity_acknowledgement_request = a;
  group_identity_attach_detach_mode = m;
  proprietary = p;
  group_report_response = g;
  group_identity_downlink = l;
  group_identity_security_related_information = s;
}

abbrev pub attach_detach_full : OptionalType4 → DAttachDetachGroupIdentity
attach_detach_full security = attach_detach_with 1 0 1 (a_type3 5 21) (a_type3 3 6) (these_downlinks downlink_groups) security

-- ## records of one message

abbrev pub empty_demand : ULocationUpdateDemand
empty_demand = demand_with 0 0 (in64 None) (in64 None) no_type3 no_location_demand

abbrev pub empty_accept : DLocationUpdateAccept
empty_accept = accept_with 0 no_saving

abbrev pub empty_attach_detach : DAttachDetachGroupIdentity
empty_attach_detach = attach_detach_with 0 0 0 no_type3 no_type3 no_downlinks no_type4

abbrev pub empty_record : Record
empty_record = record { demand = empty_demand; accept = empty_accept; attach_detach = empty_attach_detach }

abbrev pub only_demand : ULocationUpdateDemand → Record
only_demand d = record { demand = d; accept = empty_accept; attach_detach = empty_attach_detach }

abbrev pub only_accept : DLocationUpdateAccept → Record
only_accept a = record { demand = empty_demand; accept = a; attach_detach = empty_attach_detach }

abbrev pub only_attach_detach : DAttachDetachGroupIdentity → Record
only_attach_detach a = record { demand = empty_demand; accept = empty_accept; attach_detach = a }
