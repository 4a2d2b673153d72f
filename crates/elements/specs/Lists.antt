-- Lists of groups: a type 4 element whose entries are read and written one by one. A list of no entries differs from an absent one.
use Rattle.std.specs.Prelude.{ℕ, ◌-◌, ◌≡◌, Bool, true, false, ◌&&◌, List, [], ◌∷◌, ◌++◌, map, length, take, replicate, leb, option_map}
use Rattle.std.specs.Prelude.{Option, None, Some}
use Rattle.bits.specs.Bits.{Bits, digits}
use Rattle.bits.specs.Reader.{Reader, got, ◌>>=◌, times, exactly}
use Rattle.elements.specs.Numbers.{held, option_all, in_width}
use Rattle.elements.specs.Table.{length_width}
use Rattle.elements.specs.Generics.{entries_width, entries}
use Rattle.elements.specs.Groups.{uplink, uplink_of, uplink_bits, uplink_fits, uplink_one, uplink_listed, uplink_normal, SameUplink, downlink, downlink_of, downlink_bits, downlink_fits, downlink_one, downlink_listed, downlink_normal, SameDownlink, no_address_in}
use Rattle.elements.specs.declared.group_identity_uplink.GroupIdentityUplink.{GroupIdentityUplink}
use Rattle.elements.specs.declared.group_identity_uplink.OptionalUplinks.{OptionalUplinks}
use Rattle.elements.specs.declared.group_identity_downlink.GroupIdentityDownlink.{GroupIdentityDownlink}
use Rattle.elements.specs.declared.group_identity_downlink.OptionalDownlinks.{OptionalDownlinks}

-- how many entries a list has room for
abbrev pub entries_most : ℕ
entries_most = 63

-- QUESTION 15: the length of a content is in its width
abbrev pub length_fits : Bits → Bool
length_fits xs = in_width length_width (length xs)

-- what each entry gives, as its bits, one after the other
unfoldable pub each : {A G : Type 0} → (G → List A) → List G → List A
each of [] = []
each of (g ∷ gs) = of g ++ each of gs

module _ {G : Type 0} where
  -- what is asked of each entry
  unfoldable pub all : (G → Bool) → List G → Bool
  all test [] = true
  all test (g ∷ gs) = test g && all test gs

  -- entry by entry
  pub data Each (eq : G → G → Type 0) : List G → List G → Type 0 where
    both_end : Each eq [] []
    one_more : {g h : G} {gs hs : List G} → eq g h → Each eq gs hs → Each eq (g ∷ gs) (h ∷ hs)

-- a kind of group G, and the declared list L of such groups
pub record Groups (G L : Type 0) : Type 1 where
  pub group : Reader G
  pub bits : G → Bits
  -- questions 8, 10 and 11 of one group
  pub fits : G → Bool
  pub one : G → Bool
  pub listed : G → Bool
  pub normal : G → G
  pub Same : G → G → Type 0
  -- what an entry beyond the count holds
  pub zero : G
  pub make : Bool → ℕ → List G → L
  pub present : L → Bool
  pub count : L → ℕ
  pub groups : L → List G

-- a list holds what it is made of
pub record Made {G L : Type 0} (k : Groups G L) : Type 0 where
  pub presence : (p : Bool) (n : ℕ) (gs : List G) → k.present (k.make p n gs) ≡ p
  pub count : (p : Bool) (n : ℕ) (gs : List G) → k.count (k.make p n gs) ≡ n
  pub groups : (p : Bool) (n : ℕ) (gs : List G) → k.groups (k.make p n gs) ≡ gs

module _ {G L : Type 0} (k : Groups G L) where
  -- the entries, and zeros up to the array's length
  abbrev pub padded : List G → List G
  padded gs = gs ++ replicate (entries_most - length gs) k.zero

  abbrev pub list_as : Bool → List G → L
  list_as p gs = k.make p (length gs) (padded gs)

  abbrev pub list_of : Option (List G) → L
  list_of None = list_as false []
  list_of (Some gs) = list_as true gs

  -- m groups, as a list
  abbrev pub groups_as : Bool → ℕ → Reader L
  groups_as p m = times m k.group >>= λ gs. got (list_as p gs)

  abbrev pub groups_read : ℕ → Reader L
  groups_read = groups_as true

  -- the content of a list element of n bits
  unfoldable pub list : ℕ → Reader L
  list = entries (λ m n. exactly n (groups_read m))

  abbrev pub list_held : L → Option L
  list_held l = held (k.present l) l

  -- the entries that are there
  abbrev pub list_in : L → Option (List G)
  list_in l = held (k.present l) (take (k.count l) (k.groups l))

  -- the content of a list element as it is written
  unfoldable pub list_bits : L → Bits
  list_bits l = digits entries_width (k.count l) ++ each k.bits (take (k.count l) (k.groups l))

  -- QUESTION 8: at most 63 entries, each number in its width
  unfoldable pub list_fits : L → Bool
  list_fits l = option_all (λ n. leb n entries_most) (held (k.present l) (k.count l)) && option_all (all k.fits) (list_in l)

  -- QUESTIONS 10 and 11
  unfoldable pub list_one : L → Bool
  list_one l = option_all (all k.one) (list_in l)

  unfoldable pub list_listed : L → Bool
  list_listed l = option_all (all k.listed) (list_in l)

  unfoldable pub list_normal : L → L
  list_normal l = list_of (option_map (map k.normal) (list_in l))

  pub record SameList (l m : L) : Type 0 where
    pub presence : k.present l ≡ k.present m
    pub count : k.present l ≡ true → k.count l ≡ k.count m
    pub groups : k.present l ≡ true → Each k.Same (take (k.count l) (k.groups l)) (take (k.count m) (k.groups m))

abbrev pub uplinks : Groups GroupIdentityUplink OptionalUplinks
uplinks = record {
  group = uplink;
  bits = uplink_bits;
  fits = uplink_fits;
  one = uplink_one;
  listed = uplink_listed;
  normal = uplink_normal;
  Same = SameUplink;
  zero = uplink_of None None no_address_in;
  make = λ p n gs. record { present = p; count = n; groups = gs };
  present = λ l. l.present;
  count = λ l. l.count;
  groups = λ l. l.groups;
}

abbrev pub downlinks : Groups GroupIdentityDownlink OptionalDownlinks
downlinks = record {
  group = downlink;
  bits = downlink_bits;
  fits = downlink_fits;
  one = downlink_one;
  listed = downlink_listed;
  normal = downlink_normal;
  Same = SameDownlink;
  zero = downlink_of None None no_address_in;
  make = λ p n gs. record { present = p; count = n; groups = gs };
  present = λ l. l.present;
  count = λ l. l.count;
  groups = λ l. l.groups;
}
