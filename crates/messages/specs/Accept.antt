-- D-LOCATION UPDATE ACCEPT (EN 300 392-2, clause 16.9.2.7): the message, and the record that stores it.
use Rattle.std.specs.Prelude.{ℕ, [], ◌∷◌}
use Rattle.elements.specs.Kinds.{row}
use Rattle.elements.specs.declared.typed_pdu_fields.Kind.TheVariants as K
use Rattle.messages.specs.Head.{d_location_update_accept_type, update_type_width, ssi_width, extension_width}
use Rattle.messages.specs.Description.{Description, number, Fields, Options, Slots, Tie}
use Rattle.messages.specs.Type2Elements.{numeral, energy_saving_information}
use Rattle.messages.specs.declared.d_location_update_accept.AcceptOptions.{AcceptOptions}
use Rattle.messages.specs.declared.d_location_update_accept.AcceptHead.{AcceptHead}
use Rattle.messages.specs.declared.d_location_update_accept.DLocationUpdateAccept.{DLocationUpdateAccept}

abbrev pub subscriber_class_width : ℕ
subscriber_class_width = 16

abbrev pub scch_width : ℕ
scch_width = 6

-- THE MESSAGE (identifiers: clause 16.10.51)
abbrev pub accept : Description
accept = record {
  type = d_location_update_accept_type;
  -- location update accept type
  fields = number update_type_width ∷ [];
  -- SSI; address extension; subscriber class; energy saving information; SCCH information and distribution on 18th frame
  options = numeral ssi_width ∷ numeral extension_width ∷ numeral subscriber_class_width ∷ energy_saving_information ∷ numeral scch_width ∷ [];
  -- new registered area; security downlink; group identity location accept; default group attachment lifetime; authentication downlink;
  -- group identity security related information; cell type control; proprietary
  table =
      row 2 K.Type4 ∷ row 3 K.Type3 ∷ row 5 K.LocationAccept ∷ row 1 K.Type3 ∷ row 10 K.Type3 ∷ row 12 K.Type4 ∷ row 13 K.Type3 ∷ row 15 K.Type3 ∷ [];
}

-- ## the record, tied to the message

abbrev pub accept_options_of : Options accept.options → AcceptOptions
accept_options_of os = record {
  ssi = os.0;
  address_extension = os.1.0;
  subscriber_class = os.1.1.0;
  energy_saving_information = os.1.1.1.0;
  scch_information_and_distribution_on_18th_frame = os.1.1.1.1.0;
}

abbrev pub accept_head_of : Fields accept.fields → AcceptOptions → AcceptHead
accept_head_of vs t = record { location_update_accept_type = vs.0; options = t }

abbrev pub accept_of : AcceptHead → Slots accept.table → DLocationUpdateAccept
accept_of h ss = record {
  location_update_accept_type = h.location_update_accept_type;
  ssi = h.options.ssi;
  address_extension = h.options.address_extension;
  subscriber_class = h.options.subscriber_class;
  energy_saving_information = h.options.energy_saving_information;
  scch_information_and_distribution_on_18th_frame = h.options.scch_information_and_distribution_on_18th_frame;
  new_registered_area = ss.0;
  security_downlink = ss.1.0;
  group_identity_location_accept = ss.1.1.0;
  default_group_attachment_lifetime = ss.1.1.1.0;
  authentication_downlink = ss.1.1.1.1.0;
  group_identity_security_related_information = ss.1.1.1.1.1.0;
  cell_type_control = ss.1.1.1.1.1.1.0;
  proprietary = ss.1.1.1.1.1.1.1.0;
}

abbrev pub accept_tie : Tie accept DLocationUpdateAccept
accept_tie = record {
  T = AcceptOptions;
  H = AcceptHead;
  options = accept_options_of;
  head = accept_head_of;
  finish = accept_of;
  values = λ r. record {
    fields = (r.location_update_accept_type, tt);
    options =
        (r.ssi, (r.address_extension, (r.subscriber_class, (r.energy_saving_information, (r.scch_information_and_distribution_on_18th_frame, tt)))));
    slots = (
      r.new_registered_area,
      (
        r.security_downlink,
        (
          r.group_identity_location_accept,
          (
            r.default_group_attachment_lifetime,
            (
              r.authentication_downlink,
              (r.group_identity_security_related_information, (r.cell_type_control, (r.proprietary, tt))),
            ),
          ),
        ),
      ),
    );
  };
}
