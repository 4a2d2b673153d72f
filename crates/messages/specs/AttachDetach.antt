-- D-ATTACH/DETACH GROUP IDENTITY (EN 300 392-2, clause 16.9.2.1): the message, and the record that stores it.
use Rattle.std.specs.Prelude.{[], ◌∷◌}
use Rattle.elements.specs.Numbers.{flag_width}
use Rattle.elements.specs.Kinds.{row}
use Rattle.elements.specs.declared.typed_pdu_fields.Kind.TheVariants as K
use Rattle.messages.specs.Head.{d_attach_detach_group_identity_type}
use Rattle.messages.specs.Description.{Description, number, Fields, Slots, Tie}
use Rattle.messages.specs.declared.d_attach_detach_group_identity.AttachDetachHead.{AttachDetachHead}
use Rattle.messages.specs.declared.d_attach_detach_group_identity.DAttachDetachGroupIdentity.{DAttachDetachGroupIdentity}

-- THE MESSAGE (identifiers: clause 16.10.51)
abbrev pub attach_detach : Description
attach_detach = record {
  type = d_attach_detach_group_identity_type;
  -- group identity report; group identity acknowledgement request; group identity attach/detach mode
  fields = number flag_width ∷ number flag_width ∷ number flag_width ∷ [];
  options = [];
  -- proprietary; group report response; group identity downlink; group identity security related information
  table = row 15 K.Type3 ∷ row 4 K.Type3 ∷ row 7 K.Downlinks ∷ row 12 K.Type4 ∷ [];
}

-- ## the record, tied to the message

abbrev pub attach_detach_head_of : Fields attach_detach.fields → Unit {0} → AttachDetachHead
attach_detach_head_of vs t = record {
  group_identity_report = vs.0;
  group_identity_acknowledgement_request = vs.1.0;
  group_identity_attach_detach_mode = vs.1.1.0;
}

abbrev pub attach_detach_of : AttachDetachHead → Slots attach_detach.table → DAttachDetachGroupIdentity
attach_detach_of h ss = record {
  group_identity_report = h.group_identity_report;
  group_identity_acknowledgement_request = h.group_identity_acknowledgement_request;
  group_identity_attach_detach_mode = h.group_identity_attach_detach_mode;
  proprietary = ss.0;
  group_report_response = ss.1.0;
  group_identity_downlink = ss.1.1.0;
  group_identity_security_related_information = ss.1.1.1.0;
}

abbrev pub attach_detach_tie : Tie attach_detach DAttachDetachGroupIdentity
attach_detach_tie = record {
  T = Unit {0};
  H = AttachDetachHead;
  options = λ t. t;
  head = attach_detach_head_of;
  finish = attach_detach_of;
  values = λ r. record {
    fields = (r.group_identity_report, (r.group_identity_acknowledgement_request, (r.group_identity_attach_detach_mode, tt)));
    options = tt;
    slots =
        (r.proprietary, (r.group_report_response, (r.group_identity_downlink, (r.group_identity_security_related_information, tt))));
  };
}
