-- U-LOCATION UPDATE DEMAND (EN 300 392-2, clause 16.9.3.4): the message, and the record that stores it.
use Rattle.std.specs.Prelude.{ℕ, [], ◌∷◌}
use Rattle.elements.specs.Numbers.{flag_width}
use Rattle.elements.specs.Kinds.{row}
use Rattle.elements.specs.declared.typed_pdu_fields.Kind.TheVariants as K
use Rattle.messages.specs.Head.{u_location_update_demand_type, update_type_width, ssi_width, extension_width}
use Rattle.messages.specs.Description.{Description, number, switched, Fields, Options, Slots, Tie}
use Rattle.messages.specs.Type2Elements.{numeral, saving_mode, la, class_of_ms}
use Rattle.messages.specs.declared.u_location_update_demand.DemandOptions.{DemandOptions}
use Rattle.messages.specs.declared.u_location_update_demand.DemandHead.{DemandHead}
use Rattle.messages.specs.declared.u_location_update_demand.ULocationUpdateDemand.{ULocationUpdateDemand}

abbrev pub ciphering_width : ℕ
ciphering_width = 10

-- THE MESSAGE (identifiers: clause 16.10.51)
abbrev pub demand : Description
demand = record {
  type = u_location_update_demand_type;
  -- location update type; request to append LA; cipher control, and ciphering parameters
  fields = number update_type_width ∷ number flag_width ∷ switched ciphering_width ∷ [];
  -- class of MS; energy saving mode; LA information; SSI; address extension
  options = class_of_ms ∷ saving_mode ∷ la ∷ numeral ssi_width ∷ numeral extension_width ∷ [];
  -- group identity location demand; group report response; authentication uplink; extended capabilities; proprietary
  table = row 3 K.LocationDemand ∷ row 4 K.Type3 ∷ row 9 K.Type3 ∷ row 11 K.Type3 ∷ row 15 K.Type3 ∷ [];
}

-- ## the record, tied to the message

abbrev pub demand_options_of : Options demand.options → DemandOptions
demand_options_of os = record {
  class_of_ms = os.0;
  energy_saving_mode = os.1.0;
  la_information = os.1.1.0;
  ssi = os.1.1.1.0;
  address_extension = os.1.1.1.1.0;
}

abbrev pub demand_head_of : Fields demand.fields → DemandOptions → DemandHead
demand_head_of vs t = record {
  location_update_type = vs.0;
  request_to_append_la = vs.1.0;
  cipher_control = vs.1.1.0.0;
  ciphering_parameters = vs.1.1.0.1;
  options = t;
}

abbrev pub demand_of : DemandHead → Slots demand.table → ULocationUpdateDemand
demand_of h ss = record {
  location_update_type = h.location_update_type;
  request_to_append_la = h.request_to_append_la;
  cipher_control = h.cipher_control;
  ciphering_parameters = h.ciphering_parameters;
  class_of_ms = h.options.class_of_ms;
  energy_saving_mode = h.options.energy_saving_mode;
  la_information = h.options.la_information;
  ssi = h.options.ssi;
  address_extension = h.options.address_extension;
  group_identity_location_demand = ss.0;
  group_report_response = ss.1.0;
  authentication_uplink = ss.1.1.0;
  extended_capabilities = ss.1.1.1.0;
  proprietary = ss.1.1.1.1.0;
}

abbrev pub demand_tie : Tie demand ULocationUpdateDemand
demand_tie = record {
  T = DemandOptions;
  H = DemandHead;
  options = demand_options_of;
  head = demand_head_of;
  finish = demand_of;
  values = λ r. record {
    fields = (r.location_update_type, (r.request_to_append_la, ((r.cipher_control, r.ciphering_parameters), tt)));
    options = (r.class_of_ms, (r.energy_saving_mode, (r.la_information, (r.ssi, (r.address_extension, tt)))));
    slots =
        (r.group_identity_location_demand, (r.group_report_response, (r.authentication_uplink, (r.extended_capabilities, (r.proprietary, tt)))));
  };
}
