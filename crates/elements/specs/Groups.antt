-- Groups (EN 300 392-2, clauses 16.10.19, 16.10.22 and 16.10.27): how they are read and written, and what is asked of them.
use Rattle.std.specs.Prelude.{ℕ, ◌+◌, ◌≡◌, Bool, true, false, cond, not, ◌&&◌, ◌||◌, List, [], ◌∷◌, ◌++◌, get_or, eqb, is_some}
use Rattle.std.specs.Bool.{beq}
use Rattle.std.specs.Prelude.{Option, None, Some}
use Rattle.bits.specs.Bits.{Bits, digits}
use Rattle.bits.specs.Reader.{Reader, got, ◌>>=◌, field, optional}
use Rattle.elements.specs.Numbers.{value_or, held, optional_number, option_bits, option_all, in_width, flag_width, Same}
use Rattle.elements.specs.declared.group_address.GroupAddress.{GroupAddress}
use Rattle.elements.specs.declared.group_identity_attachment.GroupIdentityAttachment.{GroupIdentityAttachment}
use Rattle.elements.specs.declared.group_identity_uplink.GroupIdentityUplink.{GroupIdentityUplink}
use Rattle.elements.specs.declared.group_identity_downlink.GroupIdentityDownlink.{GroupIdentityDownlink}

-- ## addresses

abbrev pub address_type_width : ℕ
address_type_width = 2

abbrev pub address_width : ℕ
address_width = 24

-- which parts an address has
pub record Form : Type 0 where
  pub gssi : Bool
  pub address_extension : Bool
  pub vgssi : Bool

abbrev pub form : Bool → Bool → Bool → Form
form g e v = record { gssi = g; address_extension = e; vgssi = v }

-- THE ADDRESS TYPES, 0 first; an uplink of type 3 has no address, and is not written
abbrev pub uplink_forms : List Form
uplink_forms = form true false false ∷ form true true false ∷ form false false true ∷ []

abbrev pub downlink_forms : List Form
downlink_forms = form true false false ∷ form true true false ∷ form false false true ∷ form true true true ∷ []

-- whether type 3 has all parts
abbrev pub forms_by : Bool → List Form
forms_by all = cond all downlink_forms uplink_forms

abbrev pub no_address : Form
no_address = form false false false

abbrev pub form_at : List Form → ℕ → Form
form_at forms t = get_or forms t no_address

abbrev pub same_form : Form → Form → Bool
same_form f h = beq f.gssi h.gssi && (beq f.address_extension h.address_extension && beq f.vgssi h.vgssi)

-- the type of a form, and whether it is listed
unfoldable pub type_of : List Form → Form → ℕ
type_of [] h = 0
type_of (f ∷ fs) h = cond (same_form f h) 0 (1 + type_of fs h)

unfoldable pub listed_form : List Form → Form → Bool
listed_form [] h = false
listed_form (f ∷ fs) h = same_form f h || listed_form fs h

unfoldable pub address_of : Form → Reader GroupAddress
address_of f =
    optional_number f.gssi address_width >>= λ g. optional_number f.address_extension address_width >>= λ e. optional_number f.vgssi address_width >>= λ v.
    got (record { gssi = g; address_extension = e; vgssi = v })

abbrev pub no_address_in : GroupAddress
no_address_in = record { gssi = None; address_extension = None; vgssi = None }

abbrev pub form_of : GroupAddress → Form
form_of a = form (is_some a.gssi) (is_some a.address_extension) (is_some a.vgssi)

unfoldable pub address_bits : List Form → GroupAddress → Bits
address_bits forms a =
    digits address_type_width (type_of forms (form_of a))
    ++ (option_bits (digits address_width) a.gssi ++ (option_bits (digits address_width) a.address_extension ++ option_bits (digits address_width) a.vgssi))

unfoldable pub address_fits : GroupAddress → Bool
address_fits a = option_all (in_width address_width) a.gssi && (option_all (in_width address_width) a.address_extension && option_all (in_width address_width) a.vgssi)

-- an address: its type, then the parts that this type has
abbrev pub typed_address : List Form → Reader GroupAddress
typed_address forms = field address_type_width >>= λ t. address_of (form_at forms t)

unfoldable pub uplink_address : Reader GroupAddress
uplink_address = typed_address uplink_forms

unfoldable pub downlink_address : Reader GroupAddress
downlink_address = typed_address downlink_forms

-- ## attachment and detachment

abbrev pub class_of_usage_width : ℕ
class_of_usage_width = 3

abbrev pub lifetime_width : ℕ
lifetime_width = 2

abbrev pub detachment_width : ℕ
detachment_width = 2

-- attach/detach type identifier
abbrev pub attachment : ℕ
attachment = 0

abbrev pub detachment : ℕ
detachment = 1

abbrev pub kind_of : Bool → ℕ
kind_of attached = cond attached attachment detachment

abbrev pub differ : Bool → Bool → Bool
differ a b = not (beq a b)

-- ## a group of either direction, by what an attachment says and by its address

abbrev pub group_with : {T G : Type 0} → Reader T → Reader GroupAddress → (Option T → Option ℕ → GroupAddress → G) → Reader G
group_with info address of =
    field flag_width >>= λ k. optional Some None (eqb k attachment) info >>= λ t. optional_number (eqb k detachment) detachment_width >>= λ d.
    address >>= λ a. got (of t d a)

abbrev pub group_bits : {T : Type 0} → (T → Bits) → List Form → Option T → Option ℕ → GroupAddress → Bits
group_bits bits forms t d a =
    digits flag_width (kind_of (is_some t)) ++ (option_bits bits t ++ (option_bits (digits detachment_width) d ++ address_bits forms a))

-- QUESTION 8
abbrev pub group_fits : {T : Type 0} → (T → Bool) → Option T → Option ℕ → GroupAddress → Bool
group_fits fits t d a = option_all fits t && (option_all (in_width detachment_width) d && address_fits a)

-- ## the uplink group

abbrev pub uplink_of : Option ℕ → Option ℕ → GroupAddress → GroupIdentityUplink
uplink_of c d a = record {
  gssi = value_or 0 a.gssi;
  address_extension = value_or 0 a.address_extension;
  vgssi = value_or 0 a.vgssi;
  class_of_usage = value_or 0 c;
  class_of_usage_present = is_some c;
  group_identity_detachment_uplink_present = is_some d;
  group_identity_detachment_uplink = value_or 0 d;
  gssi_present = is_some a.gssi;
  address_extension_present = is_some a.address_extension;
  vgssi_present = is_some a.vgssi;
}

unfoldable pub uplink : Reader GroupIdentityUplink
uplink = group_with (field class_of_usage_width) uplink_address uplink_of

-- what is present in it
abbrev pub uplink_class : GroupIdentityUplink → Option ℕ
uplink_class g = held g.class_of_usage_present g.class_of_usage

abbrev pub uplink_detachment : GroupIdentityUplink → Option ℕ
uplink_detachment g = held g.group_identity_detachment_uplink_present g.group_identity_detachment_uplink

abbrev pub uplink_address_in : GroupIdentityUplink → GroupAddress
uplink_address_in g = record {
  gssi = held g.gssi_present g.gssi;
  address_extension = held g.address_extension_present g.address_extension;
  vgssi = held g.vgssi_present g.vgssi;
}

unfoldable pub uplink_bits : GroupIdentityUplink → Bits
uplink_bits g = group_bits (digits class_of_usage_width) uplink_forms (uplink_class g) (uplink_detachment g) (uplink_address_in g)

-- QUESTIONS 8, 10 and 11
unfoldable pub uplink_fits : GroupIdentityUplink → Bool
uplink_fits g = group_fits (in_width class_of_usage_width) (uplink_class g) (uplink_detachment g) (uplink_address_in g)

unfoldable pub uplink_one : GroupIdentityUplink → Bool
uplink_one g = differ (is_some (uplink_class g)) (is_some (uplink_detachment g))

unfoldable pub uplink_listed : GroupIdentityUplink → Bool
uplink_listed g = listed_form uplink_forms (form_of (uplink_address_in g))

-- the same with zeros for what is absent
unfoldable pub uplink_normal : GroupIdentityUplink → GroupIdentityUplink
uplink_normal g = uplink_of (uplink_class g) (uplink_detachment g) (uplink_address_in g)

pub record SameUplink (g h : GroupIdentityUplink) : Type 0 where
  pub class : Same ◌≡◌ g.class_of_usage_present g.class_of_usage h.class_of_usage_present h.class_of_usage
  pub detachment :
      Same ◌≡◌ g.group_identity_detachment_uplink_present g.group_identity_detachment_uplink
      h.group_identity_detachment_uplink_present h.group_identity_detachment_uplink
  pub gssi : Same ◌≡◌ g.gssi_present g.gssi h.gssi_present h.gssi
  pub address_extension : Same ◌≡◌ g.address_extension_present g.address_extension h.address_extension_present h.address_extension
  pub vgssi : Same ◌≡◌ g.vgssi_present g.vgssi h.vgssi_present h.vgssi

-- ## the downlink group

unfoldable pub attachment_info : Reader GroupIdentityAttachment
attachment_info = field lifetime_width >>= λ l. field class_of_usage_width >>= λ c. got (record { group_identity_attachment_lifetime = l; class_of_usage = c })

abbrev pub no_attachment : GroupIdentityAttachment
no_attachment = record { group_identity_attachment_lifetime = 0; class_of_usage = 0 }

abbrev pub downlink_of : Option GroupIdentityAttachment → Option ℕ → GroupAddress → GroupIdentityDownlink
downlink_of t d a = record {
  gssi = value_or 0 a.gssi;
  address_extension = value_or 0 a.address_extension;
  vgssi = value_or 0 a.vgssi;
  group_identity_attachment_present = is_some t;
  group_identity_attachment = value_or no_attachment t;
  group_identity_detachment_uplink_present = is_some d;
  group_identity_detachment_uplink = value_or 0 d;
  gssi_present = is_some a.gssi;
  address_extension_present = is_some a.address_extension;
  vgssi_present = is_some a.vgssi;
}

unfoldable pub downlink : Reader GroupIdentityDownlink
downlink = group_with attachment_info downlink_address downlink_of

abbrev pub downlink_attachment : GroupIdentityDownlink → Option GroupIdentityAttachment
downlink_attachment g = held g.group_identity_attachment_present g.group_identity_attachment

abbrev pub downlink_detachment : GroupIdentityDownlink → Option ℕ
downlink_detachment g = held g.group_identity_detachment_uplink_present g.group_identity_detachment_uplink

abbrev pub downlink_address_in : GroupIdentityDownlink → GroupAddress
downlink_address_in g = record {
  gssi = held g.gssi_present g.gssi;
  address_extension = held g.address_extension_present g.address_extension;
  vgssi = held g.vgssi_present g.vgssi;
}

unfoldable pub attachment_bits : GroupIdentityAttachment → Bits
attachment_bits t = digits lifetime_width t.group_identity_attachment_lifetime ++ digits class_of_usage_width t.class_of_usage

unfoldable pub attachment_fits : GroupIdentityAttachment → Bool
attachment_fits t = in_width lifetime_width t.group_identity_attachment_lifetime && in_width class_of_usage_width t.class_of_usage

unfoldable pub downlink_bits : GroupIdentityDownlink → Bits
downlink_bits g = group_bits attachment_bits downlink_forms (downlink_attachment g) (downlink_detachment g) (downlink_address_in g)

-- QUESTIONS 8, 10 and 11
unfoldable pub downlink_fits : GroupIdentityDownlink → Bool
downlink_fits g = group_fits attachment_fits (downlink_attachment g) (downlink_detachment g) (downlink_address_in g)

unfoldable pub downlink_one : GroupIdentityDownlink → Bool
downlink_one g = differ (is_some (downlink_attachment g)) (is_some (downlink_detachment g))

unfoldable pub downlink_listed : GroupIdentityDownlink → Bool
downlink_listed g = listed_form downlink_forms (form_of (downlink_address_in g))

-- the same with zeros for what is absent
unfoldable pub downlink_normal : GroupIdentityDownlink → GroupIdentityDownlink
downlink_normal g = downlink_of (downlink_attachment g) (downlink_detachment g) (downlink_address_in g)

pub record SameDownlink (g h : GroupIdentityDownlink) : Type 0 where
  pub attachment :
      Same ◌≡◌ g.group_identity_attachment_present g.group_identity_attachment
      h.group_identity_attachment_present h.group_identity_attachment
  pub detachment :
      Same ◌≡◌ g.group_identity_detachment_uplink_present g.group_identity_detachment_uplink
      h.group_identity_detachment_uplink_present h.group_identity_detachment_uplink
  pub gssi : Same ◌≡◌ g.gssi_present g.gssi h.gssi_present h.gssi
  pub address_extension : Same ◌≡◌ g.address_extension_present g.address_extension h.address_extension_present h.address_extension
  pub vgssi : Same ◌≡◌ g.vgssi_present g.vgssi h.vgssi_present h.vgssi
