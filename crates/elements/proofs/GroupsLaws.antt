-- Laws of groups.
use Rattle.std.specs.Prelude.{ℕ, suc, ◌+◌, ◌/◌, ◌%◌, ◌^◌, ◌≤◌, ◌<◌, ◌≡◌, refl, Bool, true, false, cond, ◌||◌, List, [], ◌∷◌, ◌++◌, length, get_or, eqb, is_some}
use Rattle.std.proofs.Common.{div-one, one-add, arith, sym, ◌∙◌, append_assoc, lit<, lit≤}
use Rattle.std.specs.Bool.{beq}
use Rattle.std.specs.Prelude.{Option, None, Some}
use Rattle.bits.specs.Bits.{Bits, digits}
use Rattle.bits.specs.Reader.{Reader, got, ◌>>=◌, field, optional}
use Rattle.bits.specs.ReaderLaws.{then_same, field_back, split-then}
use Rattle.elements.specs.Numbers.{value_or, held, optional_number, option_all, in_width, flag_width, Same}
use Rattle.elements.proofs.NumbersLaws.{never, both, optional-same-back, number-back, optional_number-back, held-option, same-held, same_self}
use Rattle.elements.specs.ClassOfMs.{numbers}
use Rattle.elements.proofs.ClassOfMsLaws.{numbers_as, numbers-first}
use Rattle.elements.specs.ClassOfMs.{sum, split}
use Rattle.elements.specs.Groups.{address_type_width, address_width, Form, uplink_forms, downlink_forms, form_at, same_form, type_of, listed_form, address_of, form_of, address_bits, address_fits, typed_address, uplink_address, downlink_address, detachment_width, class_of_usage_width, attachment, detachment, kind_of, differ, group_with, group_bits, group_fits, uplink_of, uplink, uplink_class, uplink_detachment, uplink_address_in, uplink_bits, uplink_fits, uplink_one, uplink_listed, uplink_normal, SameUplink, lifetime_width, attachment_info, no_attachment, downlink_of, downlink, downlink_attachment, downlink_detachment, downlink_address_in, attachment_bits, attachment_fits, downlink_bits, downlink_fits, downlink_one, downlink_listed, downlink_normal, SameDownlink}
use Rattle.elements.specs.declared.group_identity_attachment.GroupIdentityAttachment.{GroupIdentityAttachment}
use Rattle.elements.specs.declared.group_identity_uplink.GroupIdentityUplink.{GroupIdentityUplink}
use Rattle.elements.specs.declared.group_identity_downlink.GroupIdentityDownlink.{GroupIdentityDownlink}
use Rattle.elements.specs.declared.group_address.GroupAddress.{GroupAddress}

-- ## attachment

-- lifetime and class of usage are one field
pub attachment-word : (bs : Bits)
    → attachment_info bs ≡ (field 5 >>= λ v. got (record { group_identity_attachment_lifetime = v / 8 % 4; class_of_usage = v % 8 })) bs
unfolding attachment_info numbers sum split
attachment-word bs =
    sym (numbers-first lifetime_width (class_of_usage_width ∷ []) (λ vs. got (said vs)) bs ∙ then_same (field lifetime_width bs) (λ l cs. numbers-first class_of_usage_width [] (λ vs. got (said (l ∷ vs))) cs))
    ∙ numbers_as (lifetime_width ∷ class_of_usage_width ∷ []) said bs ∙ then_same (field 5 bs) (λ v rest. rw (div-one v))
  where
    said : List ℕ → GroupIdentityAttachment
    said vs = record { group_identity_attachment_lifetime = get_or vs 0 0; class_of_usage = get_or vs 1 0 }

-- ## address types

beq_true : (a b : Bool) → beq a b ≡ true → a ≡ b
beq_true true true e = refl
beq_true true false e = never e
beq_true false true e = never e
beq_true false false e = refl

same_form_lem : (f h : Form) → same_form f h ≡ true → f ≡ h
same_form_lem f h e =
    let x = both (beq f.gssi h.gssi) _ e in
    let y = both (beq f.address_extension h.address_extension) _ x.1 in
    λ i. record {
      gssi = beq_true f.gssi h.gssi x.0 i;
      address_extension = beq_true f.address_extension h.address_extension y.0 i;
      vgssi = beq_true f.vgssi h.vgssi y.1 i;
    }

-- a listed form is the form of its type
pub form_type : (forms : List Form) (h : Form) → listed_form forms h ≡ true → form_at forms (type_of forms h) ≡ h
unfolding type_of listed_form
form_type [] h e = never e
form_type (f ∷ fs) h e = go (same_form f h) refl e (form_type fs h)
  where
    go : (b : Bool) → same_form f h ≡ b → (b || listed_form fs h) ≡ true → (listed_form fs h ≡ true → form_at fs (type_of fs h) ≡ h)
        → form_at (f ∷ fs) (cond b 0 (1 + type_of fs h)) ≡ h
    go true s e more = same_form_lem f h s
    go false s e more = rw one-add (more e)

pub type_lt : (forms : List Form) (h : Form) → listed_form forms h ≡ true → type_of forms h < length forms
unfolding type_of listed_form
type_lt [] h e = never e
type_lt (f ∷ fs) h e = go (same_form f h) e (type_lt fs h)
  where
    go : (b : Bool) → (b || listed_form fs h) ≡ true → (listed_form fs h ≡ true → type_of fs h < length fs)
        → cond b 0 (1 + type_of fs h) < suc (length fs)
    go true e more = omega arith
    go false e more = omega (arith, more e)

-- an address of a listed form is read back
pub address-back : (forms : List Form) → length forms ≤ 4 → (a : GroupAddress) → listed_form forms (form_of a) ≡ true → address_fits a ≡ true → (rest : Bits)
    → typed_address forms (address_bits forms a ++ rest) ≡ got a rest
unfolding address_of address_bits address_fits
address-back forms few a listed fits rest =
    let t : ℕ = type_of forms (form_of a) in
    let small : t < 2 ^ address_type_width = omega (arith, type_lt forms (form_of a) listed) in
    let x = both (option_all (in_width address_width) a.gssi) _ fits in
    let y = both (option_all (in_width address_width) a.address_extension) _ x.1 in
    simp append_assoc
    (rw (field_back address_type_width t _ small, form_type forms (form_of a) listed)
    (rw (optional_number-back address_width (is_some a.gssi) a.gssi refl x.0 _)
    (rw (optional_number-back address_width (is_some a.address_extension) a.address_extension refl y.0 _)
    (rw (optional_number-back address_width (is_some a.vgssi) a.vgssi refl y.1 _)))))

-- ## attachment and detachment

kind_attach : (t : Bool) → eqb (kind_of t) attachment ≡ t
kind_attach true = refl
kind_attach false = refl

kind_detach : (t d : Bool) → differ t d ≡ true → eqb (kind_of t) detachment ≡ d
kind_detach true true e = never e
kind_detach true false e = refl
kind_detach false true e = refl
kind_detach false false e = never e

kind_lt : (t : Bool) → kind_of t < 2 ^ flag_width
kind_lt true = lit< tt
kind_lt false = lit< tt

-- a group of either direction, by what an attachment says and by the forms of its addresses
module _ {T G : Type 0} (info : Reader T) (forms : List Form) (group_of : Option T → Option ℕ → GroupAddress → G) where
  group_back_lem : (bits : T → Bits) (fits : T → Bool) → ((t : T) → fits t ≡ true → (rest : Bits) → info (bits t ++ rest) ≡ got t rest)
      → length forms ≤ 4 → (t : Option T) (d : Option ℕ) (a : GroupAddress)
      → group_fits fits t d a ≡ true → differ (is_some t) (is_some d) ≡ true → listed_form forms (form_of a) ≡ true → (rest : Bits)
      → group_with info (typed_address forms) group_of (group_bits bits forms t d a ++ rest) ≡ got (group_of t d a) rest
  group_back_lem bits fits back few t d a f one listed rest =
      let x = both (option_all fits t) _ f in
      let y = both (option_all (in_width detachment_width) d) _ x.1 in
      simp append_assoc
      (rw (field_back flag_width (kind_of (is_some t)) _ (kind_lt (is_some t)))
      (rw (optional-same-back info bits fits back _ t (kind_attach (is_some t)) x.0 _)
      (rw (optional_number-back detachment_width _ d (kind_detach (is_some t) (is_some d) one) y.0 _)
      (rw (address-back forms few a listed y.1 rest)))))

  -- what is read is its own normal form if each group that is made of parts is
  group-own : (normal : G → G) → ((t : Option T) (d : Option ℕ) (a : GroupAddress) → normal (group_of t d a) ≡ group_of t d a)
      → (bs : Bits) {g : G} {rest : Bits} → group_with info (typed_address forms) group_of bs ≡ got g rest → normal g ≡ g
  group-own normal own bs {g} e =
      split-then (field flag_width bs) _ e (λ k b₁ p₁ q₁.
      split-then (optional Some None (eqb k attachment) info b₁) _ q₁ (λ t b₂ p₂ q₂.
      split-then (optional_number (eqb k detachment) detachment_width b₂) _ q₂ (λ d b₃ p₃ q₃.
      split-then (typed_address forms b₃) _ q₃ (λ a b₄ p₄ q₄.
      let made : group_of t d a ≡ g = cc in rw (← made) (own t d a)))))

-- an address that is held in presences and values
held-address : (a : GroupAddress) → record {
  gssi = held (is_some a.gssi) (value_or 0 a.gssi);
  address_extension = held (is_some a.address_extension) (value_or 0 a.address_extension);
  vgssi = held (is_some a.vgssi) (value_or 0 a.vgssi);
} ≡ a
held-address a = λ i. record { gssi = held-option 0 a.gssi i; address_extension = held-option 0 a.address_extension i; vgssi = held-option 0 a.vgssi i }

-- two addresses of which what is present is the same
same_address : {p q r p' q' r' : Bool} {a b c a' b' c' : ℕ} → Same ◌≡◌ p a p' a' → Same ◌≡◌ q b q' b' → Same ◌≡◌ r c r' c'
    → ◌≡◌ {A = GroupAddress} (record { gssi = held p a; address_extension = held q b; vgssi = held r c }) (record { gssi = held p' a'; address_extension = held q' b'; vgssi = held r' c' })
same_address g e v = λ i. record { gssi = same-held g i; address_extension = same-held e i; vgssi = same-held v i }

-- ## the uplink group

pub uplink_back_lem : (g : GroupIdentityUplink) → uplink_fits g ≡ true → uplink_one g ≡ true → uplink_listed g ≡ true → (rest : Bits)
    → uplink (uplink_bits g ++ rest) ≡ got (uplink_normal g) rest
unfolding uplink uplink_address uplink_bits uplink_fits uplink_one uplink_listed uplink_normal
uplink_back_lem g =
    group_back_lem (field class_of_usage_width) uplink_forms uplink_of (digits class_of_usage_width) (in_width class_of_usage_width) (number-back class_of_usage_width)
    (lit≤ tt) (uplink_class g) (uplink_detachment g) (uplink_address_in g)

pub uplink-same : {g h : GroupIdentityUplink} → SameUplink g h → uplink_normal g ≡ uplink_normal h
unfolding uplink_normal
uplink-same s = λ i. uplink_of (same-held s.class i) (same-held s.detachment i) (same_address s.gssi s.address_extension s.vgssi i)

pub uplink_normal-same : (g : GroupIdentityUplink) → SameUplink g (uplink_normal g)
unfolding uplink_normal
uplink_normal-same g = record {
  class = same_self 0 g.class_of_usage_present g.class_of_usage;
  detachment = same_self 0 g.group_identity_detachment_uplink_present g.group_identity_detachment_uplink;
  gssi = same_self 0 g.gssi_present g.gssi;
  address_extension = same_self 0 g.address_extension_present g.address_extension;
  vgssi = same_self 0 g.vgssi_present g.vgssi;
}

-- a group that was read is its own normal form
pub uplink-own : (bs : Bits) {g : GroupIdentityUplink} {rest : Bits} → uplink bs ≡ got g rest → uplink_normal g ≡ g
unfolding uplink uplink_address uplink_normal
uplink-own = group-own (field class_of_usage_width) uplink_forms uplink_of uplink_normal (λ c d a. λ i. uplink_of (held-option 0 c i) (held-option 0 d i) (held-address a i))

-- ## the downlink group

attachment-back : (t : GroupIdentityAttachment) → attachment_fits t ≡ true → (rest : Bits) → attachment_info (attachment_bits t ++ rest) ≡ got t rest
unfolding attachment_info attachment_bits attachment_fits
attachment-back t f rest =
    let x = both (in_width lifetime_width t.group_identity_attachment_lifetime) _ f in
    simp append_assoc
    (rw (number-back lifetime_width t.group_identity_attachment_lifetime x.0 _, number-back class_of_usage_width t.class_of_usage x.1 _))

pub downlink_back_lem : (g : GroupIdentityDownlink) → downlink_fits g ≡ true → downlink_one g ≡ true → downlink_listed g ≡ true → (rest : Bits)
    → downlink (downlink_bits g ++ rest) ≡ got (downlink_normal g) rest
unfolding downlink downlink_address downlink_bits downlink_fits downlink_one downlink_listed downlink_normal
downlink_back_lem g =
    group_back_lem attachment_info downlink_forms downlink_of attachment_bits attachment_fits attachment-back
    (lit≤ tt) (downlink_attachment g) (downlink_detachment g) (downlink_address_in g)

pub downlink-same : {g h : GroupIdentityDownlink} → SameDownlink g h → downlink_normal g ≡ downlink_normal h
unfolding downlink_normal
downlink-same s = λ i. downlink_of (same-held s.attachment i) (same-held s.detachment i) (same_address s.gssi s.address_extension s.vgssi i)

pub downlink_normal-same : (g : GroupIdentityDownlink) → SameDownlink g (downlink_normal g)
unfolding downlink_normal
downlink_normal-same g = record {
  attachment = same_self no_attachment g.group_identity_attachment_present g.group_identity_attachment;
  detachment = same_self 0 g.group_identity_detachment_uplink_present g.group_identity_detachment_uplink;
  gssi = same_self 0 g.gssi_present g.gssi;
  address_extension = same_self 0 g.address_extension_present g.address_extension;
  vgssi = same_self 0 g.vgssi_present g.vgssi;
}

pub downlink-own : (bs : Bits) {g : GroupIdentityDownlink} {rest : Bits} → downlink bs ≡ got g rest → downlink_normal g ≡ g
unfolding downlink downlink_address downlink_normal
downlink-own = group-own attachment_info downlink_forms downlink_of downlink_normal (λ t d a. λ i. downlink_of (held-option no_attachment t i) (held-option 0 d i) (held-address a i))
