-- Group identity location demand and accept (EN 300 392-2, clauses 16.10.24 and 16.10.23): two bits, O-bit, a list, M-bit. The demand's
-- reserved bit has to be 0; the accept's is passed, and written 0.
use Rattle.std.specs.Prelude.{ℕ, ◌≡◌, Bool, true, false, ◌&&◌, [], ◌∷◌, ◌++◌, get_or, eqb}
use Rattle.std.specs.Prelude.{None}
use Rattle.bits.specs.PduParseError.{invalid_value}
use Rattle.bits.specs.Bits.{Bits, digits}
use Rattle.bits.specs.Reader.{Reader, got, then, ◌>>=◌, field, pass, unless, exactly}
use Rattle.elements.specs.Numbers.{value_or, option_bits, in_width, flag_width, announced}
use Rattle.elements.specs.Table.{scan_table}
use Rattle.elements.specs.TableWritten.{table_bits}
use Rattle.elements.specs.Lists.{length_fits, Groups, list, list_of, list_held, list_bits, list_fits, list_normal, SameList, uplinks, downlinks}
use Rattle.elements.specs.declared.group_identity_location_demand.GroupIdentityLocationDemand.{GroupIdentityLocationDemand}
use Rattle.elements.specs.declared.group_identity_location_accept.GroupIdentityLocationAccept.{GroupIdentityLocationAccept}

-- a structure that holds one list: a table of one slot, read strictly
module _ {G L : Type 0} (k : Groups G L) (identifier : ℕ) where
  abbrev pub nested_if : Bool → Reader L
  nested_if true bs = then (scan_table (λ i. i) (λ i. list k) false (identifier ∷ []) bs) (λ x. got (value_or (list_of k None) (get_or x.value 0 None)))
  nested_if false bs = got (list_of k None) bs

  -- O-bit, and the list behind it
  unfoldable pub nested : Reader L
  nested = field flag_width >>= λ o. nested_if (eqb o 1)

  unfoldable pub nested_bits : L → Bits
  nested_bits l = announced (k.present l) (table_bits (λ i. i) (λ i. list_bits k) (identifier ∷ []) (list_held k l ∷ []))

-- QUESTION 15 of a structure whose bits are xs, and of the list that it holds
abbrev pub lengths_fit : {G L : Type 0} → Groups G L → Bits → L → Bool
lengths_fit k xs l = length_fits xs && length_fits (option_bits (list_bits k) (list_held k l))

-- identifiers of the lists inside (clause 16.10.51)
abbrev pub group_identity_uplink_identifier : ℕ
group_identity_uplink_identifier = 8

abbrev pub group_identity_downlink_identifier : ℕ
group_identity_downlink_identifier = 7

-- ## location demand

-- the reserved bit has to be 0
abbrev pub is_unset : ℕ → Bool
is_unset r = eqb r 0

abbrev pub demand_reserved : ℕ → Reader Unit
demand_reserved r = unless (is_unset r) invalid_value

-- before the list: the reserved bit, and the mode
abbrev pub demand_front : {D : Type 0} → (ℕ → Reader D) → Reader D
demand_front f = field flag_width >>= λ r. demand_reserved r >>= λ z. field flag_width >>= f

unfoldable pub demand_body : Reader GroupIdentityLocationDemand
demand_body =
    demand_front (λ m. nested uplinks group_identity_uplink_identifier >>= λ l.
    got (record { group_identity_attach_detach_mode = m; group_identity_uplink = l }))

unfoldable pub location_demand : ℕ → Reader GroupIdentityLocationDemand
location_demand n = exactly n demand_body

abbrev pub no_location_demand : GroupIdentityLocationDemand
no_location_demand = record { group_identity_attach_detach_mode = 0; group_identity_uplink = list_of uplinks None }

unfoldable pub location_demand_bits : GroupIdentityLocationDemand → Bits
location_demand_bits d =
    digits flag_width 0 ++ (digits flag_width d.group_identity_attach_detach_mode ++ nested_bits uplinks group_identity_uplink_identifier d.group_identity_uplink)

-- QUESTION 8
unfoldable pub location_demand_fits : GroupIdentityLocationDemand → Bool
location_demand_fits d = in_width flag_width d.group_identity_attach_detach_mode && list_fits uplinks d.group_identity_uplink

unfoldable pub location_demand_normal : GroupIdentityLocationDemand → GroupIdentityLocationDemand
location_demand_normal d = record {
  group_identity_attach_detach_mode = d.group_identity_attach_detach_mode;
  group_identity_uplink = list_normal uplinks d.group_identity_uplink;
}

pub record SameLocationDemand (d e : GroupIdentityLocationDemand) : Type 0 where
  pub mode : d.group_identity_attach_detach_mode ≡ e.group_identity_attach_detach_mode
  pub list : SameList uplinks d.group_identity_uplink e.group_identity_uplink

-- ## location accept

-- the reserved bit, whatever it is
abbrev pub accept_reserved : Reader Unit
accept_reserved = pass flag_width

-- before the list: the answer, and the reserved bit
abbrev pub accept_front : {D : Type 0} → (ℕ → Reader D) → Reader D
accept_front f = field flag_width >>= λ a. accept_reserved >>= λ z. f a

unfoldable pub accept_body : Reader GroupIdentityLocationAccept
accept_body =
    accept_front (λ a. nested downlinks group_identity_downlink_identifier >>= λ l.
    got (record { group_identity_accept_reject = a; group_identity_downlink = l }))

unfoldable pub location_accept : ℕ → Reader GroupIdentityLocationAccept
location_accept n = exactly n accept_body

abbrev pub no_location_accept : GroupIdentityLocationAccept
no_location_accept = record { group_identity_accept_reject = 0; group_identity_downlink = list_of downlinks None }

unfoldable pub location_accept_bits : GroupIdentityLocationAccept → Bits
location_accept_bits d =
    digits flag_width d.group_identity_accept_reject ++ (digits flag_width 0 ++ nested_bits downlinks group_identity_downlink_identifier d.group_identity_downlink)

unfoldable pub location_accept_fits : GroupIdentityLocationAccept → Bool
location_accept_fits d = in_width flag_width d.group_identity_accept_reject && list_fits downlinks d.group_identity_downlink

unfoldable pub location_accept_normal : GroupIdentityLocationAccept → GroupIdentityLocationAccept
location_accept_normal d = record {
  group_identity_accept_reject = d.group_identity_accept_reject;
  group_identity_downlink = list_normal downlinks d.group_identity_downlink;
}

pub record SameLocationAccept (d e : GroupIdentityLocationAccept) : Type 0 where
  pub accept_reject_lem : d.group_identity_accept_reject ≡ e.group_identity_accept_reject
  pub list : SameList downlinks d.group_identity_downlink e.group_identity_downlink
