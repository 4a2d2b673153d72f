-- What questions 8, 10 and 11 find of a group and of a list, and how many bits there are; and the laws of asking one group after the other.
use Prim.Native.Nat.{ℕ, zero, suc, ◌+◌, ◌<◌}
use Rattle.std.proofs.Common.{arith, sym, length-append}
use Rattle.std.specs.Prelude.{◌≡◌, Bool, cond, ◌&&◌, ◌||◌, length, take, get_or, leb, is_some}
use Rattle.std.proofs.Math.Path.{refl}
use Rattle.std.proofs.Math.Bool.{true, false, and-true, and_assoc}
use Rattle.std.specs.Prelude.{Option, None, Some}
use mathlib.Core.List.{List, [], ◌∷◌}
use Rattle.std.proofs.Math.Dec.{ltb}
use Rattle.std.proofs.lemmas.Bool.{lt-ltb, ltb-true, ltb-false, le-ltb}
use Rattle.bits.specs.Bits.{Bits, digits}
use Rattle.bits.specs.BitsLaws.{length_digits}
use Rattle.elements.specs.Numbers.{option_bits, in_width, flag_width}
use Rattle.elements.specs.Groups.{uplink_class, uplink_detachment, uplink_address_in, uplink_bits, uplink_fits, uplink_one, uplink_listed, downlink_attachment, downlink_detachment, downlink_address_in, downlink_bits, downlink_fits, downlink_one, downlink_listed, Form, group_fits, differ, same_form, address_width, address_type_width, address_bits, form_of, type_of, listed_form, uplink_forms, downlink_forms, kind_of, detachment_width, class_of_usage_width, attachment_bits, attachment_fits, group_bits}
use Rattle.elements.specs.Generics.{entries_width}
use Rattle.elements.proofs.EachLaws.{each_more}
use Rattle.elements.specs.Lists.{Groups, uplinks, downlinks, each, all, list_bits, list_held, list_fits, list_one, list_listed}
use Rattle.elements.specs.declared.group_identity_uplink.GroupIdentityUplink.{GroupIdentityUplink}
use Rattle.elements.specs.declared.group_identity_downlink.GroupIdentityDownlink.{GroupIdentityDownlink}
use Rattle.elements.specs.declared.group_address.GroupAddress.{GroupAddress}
use Rattle.element_writers.specs.declared.group_address.GroupsAsked.{GroupsAsked}

-- how many bits the parts of an address have
abbrev pub address_size : GroupAddress → ℕ
address_size a =
    length (option_bits (digits address_width) a.gssi)
    + (length (option_bits (digits address_width) a.address_extension) + length (option_bits (digits address_width) a.vgssi))

module _ {G L : Type 0} (k : Groups G L) where
  abbrev pub asked_of : G → GroupsAsked
  asked_of g = record { fits = k.fits g; one = k.one g; listed = k.listed g; size = length (k.bits g) }

  abbrev pub asked_each : List G → GroupsAsked
  asked_each gs = record { fits = all k.fits gs; one = all k.one gs; listed = all k.listed gs; size = length (each k.bits gs) }

  -- A LIST; an absent one passes them, and has no bits
  abbrev pub asked_list : L → GroupsAsked
  asked_list l = record {
    fits = list_fits k l;
    one = list_one k l;
    listed = list_listed k l;
    size = length (option_bits (list_bits k) (list_held k l));
  }

-- a list's count alone
abbrev pub asked_count : ℕ → GroupsAsked
asked_count n = record { fits = leb n 63; one = true; listed = true; size = entries_width }

-- groups, and behind them others
abbrev pub asked_both : GroupsAsked → GroupsAsked → GroupsAsked
asked_both x y = record { fits = x.fits && y.fits; one = x.one && y.one; listed = x.listed && y.listed; size = x.size + y.size }

-- no groups
abbrev pub asked_none : GroupsAsked
asked_none = record { fits = true; one = true; listed = true; size = 0 }

-- ## laws

-- the bits of what may be absent
pub some-size : {A : Type 0} (bits : A → Bits) (w : ℕ) → ((a : A) → length (bits a) ≡ w) → (o : Option A) → cond (is_some o) w 0 ≡ length (option_bits bits o)
some-size bits w h None = refl
some-size bits w h (Some a) = sym (h a)

pub number-size : (w : ℕ) (o : Option ℕ) → cond (is_some o) w 0 ≡ length (option_bits (digits w) o)
number-size w = some-size (digits w) w (length_digits w)

-- a form is listed where its type is one of the listed ones
pub listed-type : (fs : List Form) (h : Form) → ltb (type_of fs h) (length fs) ≡ listed_form fs h
unfolding type_of listed_form
listed-type [] h = refl
listed-type (f ∷ fs) h = go (same_form f h) (listed-type fs h)
  where
    next : (n m : ℕ) (b : Bool) → ltb n m ≡ b → ltb (1 + n) (suc m) ≡ b
    next n m true e = lt-ltb _ _ (omega (arith, ltb-true n m e))
    next n m false e = le-ltb _ _ (omega (arith, ltb-false n m e))

    go : (b : Bool) → ltb (type_of fs h) (length fs) ≡ listed_form fs h → ltb (cond b 0 (1 + type_of fs h)) (length (f ∷ fs)) ≡ (b || listed_form fs h)
    go true e = lt-ltb _ _ (omega arith)
    go false e = next (type_of fs h) (length fs) (listed_form fs h) e

-- the bits of a group
pub group-size : {T : Type 0} (bits : T → Bits) (forms : List Form) (t : Option T) (d : Option ℕ) (a : GroupAddress)
    → 3 + (length (option_bits bits t) + (length (option_bits (digits detachment_width) d) + address_size a)) ≡ length (group_bits bits forms t d a)
unfolding address_bits
group-size bits forms t d a =
    let x : Bits = digits flag_width (kind_of (is_some t)) in
    let z : Bits = digits address_type_width (type_of forms (form_of a)) in
    let lx : length x ≡ 1 = length_digits flag_width (kind_of (is_some t)) in
    let lz : length z ≡ 2 = length_digits address_type_width (type_of forms (form_of a)) in
    sym (simp length-append (omega arith))

-- what is asked of a group of either kind
abbrev pub asked_parts : {T : Type 0} → (T → Bits) → (T → Bool) → List Form → Option T → Option ℕ → GroupAddress → GroupsAsked
asked_parts bits fits forms t d a = record {
  fits = group_fits fits t d a;
  one = differ (is_some t) (is_some d);
  listed = listed_form forms (form_of a);
  size = length (group_bits bits forms t d a);
}

-- where an attachment says w bits, and there are n address types
pub group-asked : {T : Type 0} (bits : T → Bits) (fits : T → Bool) {w n : ℕ} → ((t : T) → length (bits t) ≡ w) → (forms : List Form) → length forms ≡ n
    → (t : Option T) (d : Option ℕ) (a : GroupAddress)
    → ◌≡◌ {A = GroupsAsked}
    (record {
      fits = group_fits fits t d a;
      one = differ (is_some t) (is_some d);
      listed = ltb (type_of forms (form_of a)) n;
      size = 3 + (cond (is_some t) w 0 + (cond (is_some d) detachment_width 0 + address_size a));
    })
    (asked_parts bits fits forms t d a)
group-asked bits fits {w} {n} h forms e t d a =
    rw (← e, some-size bits w h t, number-size detachment_width d, group-size bits forms t d a, listed-type forms (form_of a))

pub uplink-asked : (g : GroupIdentityUplink)
    → asked_parts (digits class_of_usage_width) (in_width class_of_usage_width) uplink_forms (uplink_class g) (uplink_detachment g) (uplink_address_in g) ≡ asked_of uplinks g
unfolding uplink_bits uplink_fits uplink_one uplink_listed
uplink-asked g = refl

pub downlink-asked : (g : GroupIdentityDownlink)
    → asked_parts attachment_bits attachment_fits downlink_forms (downlink_attachment g) (downlink_detachment g) (downlink_address_in g) ≡ asked_of downlinks g
unfolding downlink_bits downlink_fits downlink_one downlink_listed
downlink-asked g = refl

-- one group after the other
module _ {G L : Type 0} (k : Groups G L) where
  all-next : (test : G → Bool) (gs : List G) (i : ℕ) (d : G) → i < length gs → all test (take (suc i) gs) ≡ (all test (take i gs) && test (get_or gs i d))
  unfolding all
  all-next test [] i d h = absurd (omega arith)
  all-next test (g ∷ gs) zero d h = and-true (test g)
  all-next test (g ∷ gs) (suc i) d h = rw (all-next test gs i d (omega arith)) (sym (and_assoc (test g) (all test (take i gs)) (test (get_or gs i d))))

  all_more : (test : G → Bool) (gs : List G) (i : ℕ) (d : G) → i < length gs → all test (take (i + 1) gs) ≡ (all test (take i gs) && test (get_or gs i d))
  all_more test gs i d h = let z : i + 1 ≡ suc i = omega arith in rw z (all-next test gs i d h)

  -- of no groups, and of one more
  pub none_asked : asked_none ≡ asked_each k []
  unfolding list_fits list_one list_listed all each
  none_asked = refl

  pub asked-more : (gs : List G) (i : ℕ) {g : G} {x y : GroupsAsked} → i < length gs → g ≡ get_or gs i g → x ≡ asked_each k (take i gs) → y ≡ asked_of k g
      → asked_both x y ≡ asked_each k (take (i + 1) gs)
  asked-more gs i {g} h is e f =
      rw (
        e,
        f,
        all_more k.fits gs i g h,
        all_more k.one gs i g h,
        all_more k.listed gs i g h,
        each_more k.bits gs i g h,
        ← is,
        length-append (each k.bits (take i gs)) (k.bits g),
      )

  -- the list, present and absent
  pub list-asked : (l : L) {x : GroupsAsked} → k.present l ≡ true → x ≡ asked_each k (take (k.count l) (k.groups l)) → asked_both (asked_count (k.count l)) x ≡ asked_list k l
  unfolding list_fits list_one list_listed list_bits
  list-asked l p e =
      rw (p, e)
      (rw (length-append (digits entries_width (k.count l)) (each k.bits (take (k.count l) (k.groups l))), length_digits entries_width (k.count l)))

  pub no_list-asked : (l : L) → k.present l ≡ false → asked_none ≡ asked_list k l
  unfolding list_fits list_one list_listed
  no_list-asked l p = rw p
