-- The bits of a group as the fields that they are written in: those up to the GSSI, and the rest.
use Rattle.std.specs.Prelude.{ℕ, ◌+◌, ◌≤◌, ◌<◌, ◌≡◌, cond, length, take, get_or, is_some, unwrap_or}
use Rattle.std.proofs.Common.{arith, ◌∙◌, length-append}
use Rattle.std.proofs.Math.Path.{refl, ap₂}
use Rattle.std.specs.Prelude.{Option, None, Some}
use mathlib.Core.List.{List, [], ◌∷◌, ◌++◌, append_assoc, append-nil}
use Rattle.bits.specs.Bits.{Bits, digits}
use Rattle.bits.specs.BitsLaws.{length_digits}
use Rattle.bits.specs.Written.{Spot, joined}
use Rattle.bits.specs.PutsLaws.{Puts, ◌⨾◌, joined-append}
use Rattle.elements.specs.Numbers.{option_bits, flag_width}
use Rattle.elements.specs.Groups.{Form, form_of, type_of, address_type_width, address_width, address_bits, detachment_width, kind_of, group_bits, class_of_usage_width, uplink_forms, uplink_class, uplink_detachment, uplink_address_in, uplink_bits, downlink_forms, attachment_bits, downlink_attachment, downlink_detachment, downlink_address_in, downlink_bits}
use Rattle.elements.specs.Lists.{each}
use Rattle.elements.proofs.EachLaws.{each_more}
use Rattle.elements.specs.declared.group_identity_attachment.GroupIdentityAttachment.{GroupIdentityAttachment}
use Rattle.elements.specs.declared.group_identity_uplink.GroupIdentityUplink.{GroupIdentityUplink}
use Rattle.elements.specs.declared.group_identity_downlink.GroupIdentityDownlink.{GroupIdentityDownlink}
use Rattle.elements.specs.declared.group_address.GroupAddress.{GroupAddress}

-- ## one group

abbrev pub group_front : {T : Type 0} → (T → Bits) → List Form → Option T → Option ℕ → GroupAddress → Bits
group_front bits forms t d a =
    (((digits flag_width (kind_of (is_some t)) ++ option_bits bits t) ++ option_bits (digits detachment_width) d)
    ++ digits address_type_width (type_of forms (form_of a))) ++ option_bits (digits address_width) a.gssi

abbrev pub group_back : GroupAddress → Bits
group_back a = option_bits (digits address_width) a.address_extension ++ option_bits (digits address_width) a.vgssi

-- a group of a kind: what an attachment says in bits, the address types, and what is present in the group
abbrev pub group_parts : {T G : Type 0} → (T → Bits) → List Form → (G → Option T) → (G → Option ℕ) → (G → GroupAddress) → G → List Bits
group_parts bits forms attachment detachment address g = group_front bits forms (attachment g) (detachment g) (address g) ∷ group_back (address g) ∷ []

-- an absent number has no digits
pub part-digits : (w : ℕ) (o : Option ℕ) → digits (cond (is_some o) w 0) (unwrap_or o 0) ≡ option_bits (digits w) o
unfolding digits
part-digits w None = refl
part-digits w (Some v) = refl

pub no-digits : (v : ℕ) → digits 0 v ≡ []
unfolding digits
no-digits v = refl

pub group-parts : {T : Type 0} (bits : T → Bits) (forms : List Form) (t : Option T) (d : Option ℕ) (a : GroupAddress)
    → group_front bits forms t d a ++ group_back a ≡ group_bits bits forms t d a
unfolding address_bits
group-parts bits forms t d a = simp append_assoc

-- each is at most 64 bits long
option-length : (w : ℕ) (o : Option ℕ) → length (option_bits (digits w) o) ≤ w
option-length w None = omega arith
option-length w (Some v) = rw (length_digits w v) (omega arith)

pub option_most : {T : Type 0} (bits : T → Bits) (w : ℕ) → ((t : T) → length (bits t) ≡ w) → (o : Option T) → length (option_bits bits o) ≤ w
option_most bits w h None = omega arith
option_most bits w h (Some t) = rw (h t) (omega arith)

pub group_front-fits : {T : Type 0} (bits : T → Bits) (forms : List Form) (t : Option T) (d : Option ℕ) (a : GroupAddress)
    → length (option_bits bits t) ≤ 5 → length (group_front bits forms t d a) ≤ 64
group_front-fits bits forms t d a h =
    let x : Bits = digits flag_width (kind_of (is_some t)) in
    let y : Bits = option_bits (digits detachment_width) d in
    let z : Bits = digits address_type_width (type_of forms (form_of a)) in
    let g : Bits = option_bits (digits address_width) a.gssi in
    let lx : length x ≡ 1 = length_digits flag_width (kind_of (is_some t)) in
    let ly = option-length detachment_width d in
    let lz : length z ≡ 2 = length_digits address_type_width (type_of forms (form_of a)) in
    let lg = option-length address_width a.gssi in
    rw (length-append (((x ++ option_bits bits t) ++ y) ++ z) g, length-append ((x ++ option_bits bits t) ++ y) z, length-append (x ++ option_bits bits t) y, length-append x (option_bits bits t))
    (omega arith)

pub group_back-fits : (a : GroupAddress) → length (group_back a) ≤ 64
group_back-fits a =
    let le = option-length address_width a.address_extension in
    let lv = option-length address_width a.vgssi in
    rw (length-append (option_bits (digits address_width) a.address_extension) (option_bits (digits address_width) a.vgssi)) (omega arith)

-- they are the group's bits
group_parts_lem : {T : Type 0} (bits : T → Bits) (forms : List Form) (t : Option T) (d : Option ℕ) (a : GroupAddress)
    → joined (group_front bits forms t d a ∷ group_back a ∷ []) ≡ group_bits bits forms t d a
unfolding joined
group_parts_lem bits forms t d a = rw (append-nil (group_back a)) (group-parts bits forms t d a)

abbrev pub uplink_parts : GroupIdentityUplink → List Bits
uplink_parts = group_parts (digits class_of_usage_width) uplink_forms uplink_class uplink_detachment uplink_address_in

pub uplink_parts_lem : (g : GroupIdentityUplink) → joined (uplink_parts g) ≡ uplink_bits g
unfolding uplink_bits
uplink_parts_lem g = group_parts_lem (digits class_of_usage_width) uplink_forms (uplink_class g) (uplink_detachment g) (uplink_address_in g)

abbrev pub downlink_parts : GroupIdentityDownlink → List Bits
downlink_parts = group_parts attachment_bits downlink_forms downlink_attachment downlink_detachment downlink_address_in

pub downlink_parts_lem : (g : GroupIdentityDownlink) → joined (downlink_parts g) ≡ downlink_bits g
unfolding downlink_bits
downlink_parts_lem g = group_parts_lem attachment_bits downlink_forms (downlink_attachment g) (downlink_detachment g) (downlink_address_in g)

-- what an attachment of a downlink group says has 5 bits
pub attachment-length : (t : GroupIdentityAttachment) → length (attachment_bits t) ≡ 5
unfolding attachment_bits digits
attachment-length t = refl

-- ## the groups of a list

module _ {G : Type 0} (parts : G → List Bits) where
  -- one more
  pub each-one : {s t u : Spot} (gs : List G) (i : ℕ) {g : G} → i < length gs → g ≡ get_or gs i g → Puts (each parts (take i gs)) s t → Puts (parts g) t u
      → Puts (each parts (take (i + 1) gs)) s u
  each-one gs i {g} h e p q = rw (each_more parts gs i g h, ← e) (p ⨾ q)

  -- they are the bits of each group
  pub each-joined : (bits : G → Bits) → ((g : G) → joined (parts g) ≡ bits g) → (gs : List G) → joined (each parts gs) ≡ each bits gs
  unfolding joined each
  each-joined bits h [] = refl
  each-joined bits h (g ∷ gs) = joined-append (parts g) (each parts gs) ∙ ap₂ (λ (xs ys : Bits). xs ++ ys) (h g) (each-joined bits h gs)
