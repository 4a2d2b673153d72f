-- What questions 8, 10, 11 and 15 find of a location demand or accept that may be absent, and its lengths; and the parts that it is written in.
use Rattle.std.specs.Prelude.{ℕ, ◌+◌, ◌≡◌, Bool, cond, ◌&&◌, List, [], ◌++◌, length}
use Rattle.std.proofs.Math.Path.{refl}
use Rattle.std.proofs.Common.{ap}
use Rattle.std.proofs.Math.Bool.{true, false}
use Rattle.std.specs.Prelude.{Option, Some}
use Rattle.bits.specs.Bits.{Bits, digits}
use Rattle.bits.specs.Written.{joined}
use Rattle.elements.specs.Table.{length_width}
use Rattle.elements.specs.Numbers.{held, option_bits, option_all, in_width, flag_width}
use Rattle.elements.specs.Lists.{Groups, uplinks, downlinks, list_bits, list_held, list_fits, list_one, list_listed}
use Rattle.elements.specs.Locations.{lengths_fit, nested_bits, group_identity_uplink_identifier, group_identity_downlink_identifier, location_demand_bits, location_demand_fits, location_accept_bits, location_accept_fits}
use Rattle.elements.specs.declared.group_identity_location_demand.GroupIdentityLocationDemand.{GroupIdentityLocationDemand}
use Rattle.elements.specs.declared.group_identity_location_demand.OptionalLocationDemand.{OptionalLocationDemand}
use Rattle.elements.specs.declared.group_identity_location_accept.GroupIdentityLocationAccept.{GroupIdentityLocationAccept}
use Rattle.elements.specs.declared.group_identity_location_accept.OptionalLocationAccept.{OptionalLocationAccept}
use Rattle.element_writers.specs.GroupParts.{uplink_parts, uplink_parts_lem, downlink_parts, downlink_parts_lem}
use Rattle.element_writers.specs.GroupsAsked.{asked_list}
use Rattle.element_writers.specs.WrittenElements.{optional_bits, structure_front, nested_parts, structure-length, structure-joined}
use Rattle.element_writers.specs.declared.group_address.GroupsAsked.{GroupsAsked}
use Rattle.element_writers.specs.declared.group_address.LocationAsked.{LocationAsked}

-- of what is asked of its own number, and of its list
abbrev pub location_of : Bool → Bool → GroupsAsked → LocationAsked
location_of own listed a = record {
  fits = own && a.fits;
  one = a.one;
  listed = a.listed;
  short = in_width length_width (2 + cond listed (18 + a.size) 1) && in_width length_width a.size;
  list = a.size;
  content = 2 + cond listed (18 + a.size) 1;
}

-- each D holds a list L
module _ {G L D : Type 0} (k : Groups G L) (fits : D → Bool) (bits : D → Bits) (list : D → L) where
  abbrev list_content : D → Bits
  list_content d = option_bits (list_bits k) (list_held k (list d))

  -- A STRUCTURE; an absent one passes them, and has no bits
  abbrev pub asked_location : Option D → LocationAsked
  asked_location o = record {
    fits = option_all fits o;
    one = option_all (λ d. list_one k (list d)) o;
    listed = option_all (λ d. list_listed k (list d)) o;
    short = option_all (λ d. lengths_fit k (bits d) (list d)) o;
    list = length (option_bits list_content o);
    content = length (option_bits bits o);
  }

abbrev pub demand_location_asked : OptionalLocationDemand → LocationAsked
demand_location_asked o =
    asked_location uplinks location_demand_fits location_demand_bits (λ d. d.group_identity_uplink) (held o.present o.value)

abbrev pub accept_location_asked : OptionalLocationAccept → LocationAsked
accept_location_asked o =
    asked_location downlinks location_accept_fits location_accept_bits (λ d. d.group_identity_downlink) (held o.present o.value)

-- the parts, with identifier i, where the list's content has m bits and the structure's n
abbrev pub demand_location_parts : ℕ → ℕ → ℕ → OptionalLocationDemand → List Bits
demand_location_parts i m n o =
    cond o.present
    (nested_parts uplinks uplink_parts group_identity_uplink_identifier (structure_front i n 0 o.value.group_identity_attach_detach_mode) m o.value.group_identity_uplink)
    []

abbrev pub accept_location_parts : ℕ → ℕ → ℕ → OptionalLocationAccept → List Bits
accept_location_parts i m n o =
    cond o.present
    (nested_parts downlinks downlink_parts group_identity_downlink_identifier (structure_front i n o.value.group_identity_accept_reject 0) m o.value.group_identity_downlink)
    []

-- ## laws

-- a structure of two bits and the list, in an element j
module _ {G L D : Type 0} (k : Groups G L) (parts : G → List Bits) (i : ℕ) (same : (g : G) → joined (parts g) ≡ k.bits g) (list : D → L) (x y : D → ℕ) where
  abbrev structure_in : D → Bits
  structure_in d = digits flag_width (x d) ++ (digits flag_width (y d) ++ nested_bits k i (list d))

  -- one that is there
  located_asked : (fits : D → Bool) (own : Bool) (d : D) {a : GroupsAsked} → (own && list_fits k (list d)) ≡ fits d → a ≡ asked_list k (list d)
      → location_of own (k.present (list d)) a ≡ asked_location k fits structure_in list (Some d)
  located_asked fits own d {a} f e = let n = structure-length k parts i same (list d) (x d) (y d) (ap (λ (x : GroupsAsked). x.size) e) in rw (n, e, f)

  -- THE PARTS are the element's bits
  located_joined : (j : ℕ) (p : Bool) (d : D) {m n : ℕ} → m ≡ length (option_bits (λ d. option_bits (list_bits k) (list_held k (list d))) (held p d))
      → n ≡ length (option_bits structure_in (held p d))
      → joined (cond p (nested_parts k parts i (structure_front j n (x d) (y d)) m (list d)) []) ≡ optional_bits j structure_in (held p d)
  unfolding joined
  located_joined j true d m n = structure-joined k parts i same (list d) (x d) (y d) j m n
  located_joined j false d m n = refl

pub location_demand-asked : (d : GroupIdentityLocationDemand) {a : GroupsAsked} → a ≡ asked_list uplinks d.group_identity_uplink
    → location_of (in_width flag_width d.group_identity_attach_detach_mode) d.group_identity_uplink.present a
    ≡ demand_location_asked (record { present = true; value = d })
unfolding location_demand_fits location_demand_bits
location_demand-asked d e =
    located_asked uplinks uplink_parts group_identity_uplink_identifier uplink_parts_lem (λ d. d.group_identity_uplink) (λ d. 0) (λ d. d.group_identity_attach_detach_mode)
    location_demand_fits (in_width flag_width d.group_identity_attach_detach_mode) d refl e

pub location_accept-asked : (d : GroupIdentityLocationAccept) {a : GroupsAsked} → a ≡ asked_list downlinks d.group_identity_downlink
    → location_of (in_width flag_width d.group_identity_accept_reject) d.group_identity_downlink.present a
    ≡ accept_location_asked (record { present = true; value = d })
unfolding location_accept_fits location_accept_bits
location_accept-asked d e =
    located_asked downlinks downlink_parts group_identity_downlink_identifier downlink_parts_lem (λ d. d.group_identity_downlink) (λ d. d.group_identity_accept_reject) (λ d. 0)
    location_accept_fits (in_width flag_width d.group_identity_accept_reject) d refl e

pub location_demand-joined : (i : ℕ) (o : OptionalLocationDemand) {a : LocationAsked} → a ≡ demand_location_asked o
    → joined (demand_location_parts i a.list a.content o) ≡ optional_bits i location_demand_bits (held o.present o.value)
unfolding location_demand_bits
location_demand-joined i o e =
    located_joined uplinks uplink_parts group_identity_uplink_identifier uplink_parts_lem (λ d. d.group_identity_uplink) (λ d. 0) (λ d. d.group_identity_attach_detach_mode)
    i o.present o.value (ap (λ (x : LocationAsked). x.list) e) (ap (λ (x : LocationAsked). x.content) e)

pub location_accept-joined : (i : ℕ) (o : OptionalLocationAccept) {a : LocationAsked} → a ≡ accept_location_asked o
    → joined (accept_location_parts i a.list a.content o) ≡ optional_bits i location_accept_bits (held o.present o.value)
unfolding location_accept_bits
location_accept-joined i o e =
    located_joined downlinks downlink_parts group_identity_downlink_identifier downlink_parts_lem (λ d. d.group_identity_downlink) (λ d. d.group_identity_accept_reject) (λ d. 0)
    i o.present o.value (ap (λ (x : LocationAsked). x.list) e) (ap (λ (x : LocationAsked). x.content) e)
