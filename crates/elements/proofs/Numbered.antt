-- A message's reader refuses with the members of its list alone: it does so by the parts that it is made of.
use Rattle.std.specs.Prelude.{ℕ, zero, suc, ◌+◌, ◌-◌, ◌≡◌, refl, Bool, true, false, cond, length, take, drop, leb, eqb}
use Rattle.std.proofs.Math.Logic.{inl, inr}
use Rattle.std.specs.Prelude.{Option, None, Some}
use mathlib.Core.List.{List, [], ◌∷◌}
use Rattle.bits.specs.PduParseError.{buffer_ended, invalid_value, type4_underflow, inconsistent_length, invalid_trailing_mbit_value}
use Rattle.bits.specs.Bits.{Bits, number}
use Rattle.bits.specs.Reader.{Answer, got, refused, Reader, then, ◌>>=◌, field, pass, unless, optional, exactly, times}
use Rattle.bits.specs.ReaderLaws.{got-refused, refused-same, optional-made, times-made}
use Rattle.elements.specs.Table.{mbit_width, look, header, closing, used_of, whole, piece, Piece, next, onward, many_of, many, pieces, element, slot, skip, scan, scan_table}
use Rattle.elements.proofs.TableLaws.{slot_cases, next_cases}
use Rattle.elements.specs.Numbers.{flag_width, type2}
use Rattle.elements.specs.Groups.{Form, address_of, uplink_address, downlink_address, uplink, downlink, attachment_info}
use Rattle.elements.specs.ClassOfMs.{numbers, class_of_ms_element}
use Rattle.elements.specs.EnergySaving.{energy_saving}
use Rattle.elements.specs.Generics.{kept, kept_entries, type3, type4, entries, entries_width}
use Rattle.elements.specs.Lists.{Groups, list, list_of, uplinks, downlinks}
use Rattle.elements.specs.Locations.{group_identity_uplink_identifier, group_identity_downlink_identifier, nested, nested_if, is_unset, demand_reserved, demand_body, location_demand, accept_reserved, accept_body, location_accept}
use Rattle.elements.specs.Kinds.{kind_content, content}
use Rattle.elements.specs.Refusals.{message_refusals, OneOf}
use Rattle.elements.specs.declared.typed_pdu_fields.Kind.{Kind}
use Rattle.elements.specs.declared.typed_pdu_fields.Kind.TheVariants as K
use Rattle.elements.specs.declared.typed_pdu_fields.Row.{Row}
use Rattle.bits.specs.declared.pdu_parse_error.PduParseErr.{PduParseErr}

abbrev pub ReadingRefusal : PduParseErr → Type 0
ReadingRefusal e = OneOf e message_refusals

pub record Numbered {A : Type 0} (r : Reader A) : Type 0 where
  pub at : (bs : Bits) (n : PduParseErr) → r bs ≡ refused n → ReadingRefusal n

pub got-numbered : {A : Type 0} (x : A) → Numbered (λ bs. got x bs)
got-numbered x = record { at = λ bs n e. got-refused e }

pub refused-numbered : {A : Type 0} (m : PduParseErr) → ReadingRefusal m → Numbered {A = A} (λ bs. refused m)
refused-numbered m h = record { at = λ bs n e. rw (← refused-same e) h }

pub bind_numbered : {A B : Type 0} (r : Reader A) (f : A → Reader B) → Numbered r → ((a : A) → Numbered (f a)) → Numbered (r >>= f)
bind_numbered {A} r f hr hf = record { at = λ bs n e. go bs n (r bs) refl e }
  where
    go : (bs : Bits) (n : PduParseErr) (x : Answer A) → r bs ≡ x → then x f ≡ refused n → ReadingRefusal n
    go bs n (got a rest) p e = (hf a).at rest n e
    go bs n (refused m) p e = rw (← refused-same e) (hr.at bs m p)

ended : ReadingRefusal buffer_ended
ended = inl refl

pub field-numbered : (w : ℕ) → Numbered (field w)
unfolding field
field-numbered w = record { at = λ bs n e. go bs n (leb w (length bs)) e }
  where
    go : (bs : Bits) (n : PduParseErr) (b : Bool) → cond b (got (number (take w bs)) (drop w bs)) (refused buffer_ended) ≡ refused n → ReadingRefusal n
    go bs n true e = got-refused e
    go bs n false e = rw (← refused-same e) ended

pub pass-numbered : (w : ℕ) → Numbered (pass w)
unfolding pass
pass-numbered w = bind_numbered (field w) _ (field-numbered w) (λ v. got-numbered tt)

pub unless-numbered : (b : Bool) (m : PduParseErr) → ReadingRefusal m → Numbered (unless b m)
unless-numbered true m h = got-numbered tt
unless-numbered false m h = refused-numbered m h

pub optional-numbered : {A B : Type 0} (present : A → B) (absent : B) (b : Bool) (r : Reader A) → Numbered r → Numbered (optional present absent b r)
optional-numbered = optional-made (λ A. Numbered) (λ A. got-numbered) (λ A B. bind_numbered)

pub times-numbered : {A : Type 0} (k : ℕ) (r : Reader A) → Numbered r → Numbered (times k r)
times-numbered = times-made (λ A. Numbered) (λ A. got-numbered) (λ A B. bind_numbered)

pub exactly-numbered : {A : Type 0} (n : ℕ) (r : Reader A) → Numbered r → Numbered (exactly n r)
exactly-numbered {A} n r h = record { at = λ bs m e. go bs m (r bs) refl e }
  where
    six : ReadingRefusal inconsistent_length
    six = inr (inr (inr (inr (inl refl))))

    test : (b : Bool) (a : A) (rest : Bits) (m : PduParseErr) → then (unless b inconsistent_length rest) (λ z. got a) ≡ refused m → ReadingRefusal m
    test true a rest m e = got-refused e
    test false a rest m e = rw (← refused-same e) six

    go : (bs : Bits) (m : PduParseErr) (x : Answer A) → r bs ≡ x
        → then x (λ a rest. then (unless (eqb (length bs) (n + length rest)) inconsistent_length rest) (λ z. got a)) ≡ refused m → ReadingRefusal m
    go bs m (got a rest) p e = test (eqb (length bs) (n + length rest)) a rest m e
    go bs m (refused k) p e = rw (← refused-same e) (h.at bs k p)

pub ruleset numbered·rules = (bind_numbered, field-numbered, pass-numbered, got-numbered, optional-numbered, times-numbered, exactly-numbered)

pub type2-numbered : {A : Type 0} (r : Reader A) → Numbered r → Numbered (type2 r)
type2-numbered r h = bind_numbered (field flag_width) _ (field-numbered flag_width) (λ p. optional-numbered Some None (eqb p 1) r h)

-- ## elements

four : ReadingRefusal invalid_value
four = inr (inr (inl refl))

five : ReadingRefusal type4_underflow
five = inr (inr (inr (inl refl)))

seven : ReadingRefusal invalid_trailing_mbit_value
seven = inr (inr (inr (inr (inr (inl refl)))))

address-numbered : (f : Form) → Numbered (address_of f)
unfolding address_of
address-numbered f = search numbered·rules depth 8

uplink-numbered : Numbered uplink
unfolding uplink uplink_address
uplink-numbered = search (numbered·rules, address-numbered) depth 12

downlink-numbered : Numbered downlink
unfolding downlink downlink_address attachment_info
downlink-numbered = search (numbered·rules, address-numbered) depth 12

numbers-numbered : (ws : List ℕ) → Numbered (numbers ws)
unfolding numbers
numbers-numbered [] = got-numbered []
numbers-numbered (w ∷ ws) = bind_numbered (field w) _ (field-numbered w) (λ v. bind_numbered (numbers ws) _ (numbers-numbered ws) (λ vs. got-numbered (v ∷ vs)))

pub class-numbered : Numbered class_of_ms_element
unfolding class_of_ms_element
class-numbered = search (numbered·rules, numbers-numbered)

pub saving-numbered : Numbered energy_saving
unfolding energy_saving
saving-numbered = search numbered·rules depth 8

kept-numbered : (n : ℕ) → Numbered (kept n)
unfolding kept
kept-numbered n = search numbered·rules depth 8

entries-numbered : {A : Type 0} (r : ℕ → ℕ → Reader A) → ((k n : ℕ) → Numbered (r k n)) → (n : ℕ) → Numbered (entries r n)
entries-numbered r h n =
    bind_numbered (field entries_width) _ (field-numbered entries_width)
    (λ k. bind_numbered (unless (leb entries_width n) type4_underflow) _ (unless-numbered (leb entries_width n) type4_underflow five) (λ z. h k (n - entries_width)))

type3-numbered : (n : ℕ) → Numbered (type3 n)
unfolding type3
type3-numbered n = search (numbered·rules, kept-numbered)

type4-numbered : (n : ℕ) → Numbered (type4 n)
unfolding type4
type4-numbered = entries-numbered kept_entries (λ k n. bind_numbered (kept n) _ (kept-numbered n) (λ d. got-numbered _))

list-numbered : {G L : Type 0} (k : Groups G L) → Numbered k.group → (n : ℕ) → Numbered (list k n)
unfolding list
list-numbered k h =
    entries-numbered _ (λ m n. exactly-numbered n _ (bind_numbered (times m k.group) _ (times-numbered m k.group h) (λ gs. got-numbered (list_of k (Some gs)))))

-- ## tables

header-numbered : Numbered header
unfolding header
header-numbered = search numbered·rules depth 8

whole-numbered : Numbered whole
unfolding whole
whole-numbered = search (numbered·rules, header-numbered) depth 8

piece-numbered : Numbered piece
unfolding piece
piece-numbered = record { at = λ bs n e. (bind_numbered {B = Piece} whole (λ i rest. got (record { identifier = i; bits = used_of bs rest }) rest) whole-numbered (λ i. record { at = λ rest k q. got-refused q })).at bs n e }

closing-numbered : Numbered closing
unfolding closing
closing-numbered = bind_numbered (field mbit_width) _ (field-numbered mbit_width) (λ m. unless-numbered (eqb m 0) invalid_trailing_mbit_value seven)

next-numbered : (stop : ℕ → Bool) → Numbered (next stop)
next-numbered stop = record {
  at = λ bs.
      (next_cases stop Numbered (refused-numbered buffer_ended ended) (look bs) (λ h. got-numbered None)
      (λ i l t. bind_numbered piece (λ p. got (Some p)) piece-numbered (λ p. got-numbered (Some p)))).at bs;
}

many-numbered : {A : Type 0} (r : Reader (Option A)) → Numbered r → (m : ℕ) → Numbered (many_of m r)
unfolding many_of
many-numbered {A} r h zero = refused-numbered buffer_ended ended
many-numbered {A} r h (suc m) = record { at = λ bs n e. go (many-numbered r h m) bs n (r bs) refl e }
  where
    go : Numbered (many_of m r) → (bs : Bits) (n : PduParseErr) (x : Answer (Option A)) → r bs ≡ x → onward x (many_of m r) ≡ refused n → ReadingRefusal n
    go more bs n (got None rest) p e = got-refused e
    go more bs n (got (Some a) rest) p e = (bind_numbered (many_of m r) (λ xs. got (a ∷ xs)) more (λ xs. got-numbered (a ∷ xs))).at rest n e
    go more bs n (refused k) p e = rw (← refused-same e) (h.at bs k p)

pieces-numbered : (stop : ℕ → Bool) → Numbered (pieces stop)
unfolding pieces many
pieces-numbered stop = record { at = λ bs n e. (many-numbered (next stop) (next-numbered stop) (suc (length bs))).at bs n e }

skip-numbered : (listed : ℕ → Bool) (b : Bool) → Numbered (skip listed b)
skip-numbered listed true = bind_numbered (pieces listed) _ (pieces-numbered listed) (λ ps. got-numbered (length ps))
skip-numbered listed false = got-numbered 0

module _ {S A : Type 0} (identifier : S → ℕ) (content : S → ℕ → Reader A) (h : (s : S) (n : ℕ) → Numbered (content s n)) where
  slot-numbered : (s : S) → Numbered (slot identifier content s)
  slot-numbered s = record {
    at = λ bs.
        (slot_cases identifier content s Numbered (refused-numbered buffer_ended ended) (got-numbered None) (look bs) (λ l.
        bind_numbered (element identifier content s) (λ a. got (Some a))
        (bind_numbered header _ header-numbered (λ x. h s x.size)) (λ a. got-numbered (Some a)))).at bs;
  }

  pub scan-numbered : (listed : ℕ → Bool) (b : Bool) (ss : List S) → Numbered (scan identifier content listed b ss)
  unfolding scan
  scan-numbered listed b [] =
      bind_numbered (skip listed b) _ (skip-numbered listed b) (λ n. bind_numbered closing _ closing-numbered (λ z. got-numbered _))
  scan-numbered listed b (s ∷ ss) =
      bind_numbered (skip listed b) _ (skip-numbered listed b)
      (λ n. bind_numbered (slot identifier content s) _ (slot-numbered s)
      (λ a. bind_numbered (scan identifier content listed b ss) _ (scan-numbered listed b ss) (λ x. got-numbered _)))

-- ## structures and contents

nested-numbered : {G L : Type 0} (k : Groups G L) (i : ℕ) → Numbered k.group → Numbered (nested k i)
unfolding nested
nested-numbered k i h = bind_numbered (field flag_width) _ (field-numbered flag_width) (λ o. go (eqb o 1))
  where
    go : (b : Bool) → Numbered (nested_if k i b)
    go true =
        bind_numbered (scan_table (λ i. i) (λ i. list k) false (i ∷ [])) _
        (scan-numbered (λ i. i) (λ i. list k) (λ s n. list-numbered k h n) _ false (i ∷ [])) (λ x. got-numbered _)
    go false = got-numbered _

location_demand-numbered : (n : ℕ) → Numbered (location_demand n)
unfolding location_demand demand_body
location_demand-numbered n =
    exactly-numbered n _
    (bind_numbered (field flag_width) _ (field-numbered flag_width) (λ r. bind_numbered (demand_reserved r) _ (unless-numbered (is_unset r) invalid_value four)
    (λ z. bind_numbered (field flag_width) _ (field-numbered flag_width) (λ m. bind_numbered (nested uplinks group_identity_uplink_identifier) _
    (nested-numbered uplinks group_identity_uplink_identifier uplink-numbered) (λ l. got-numbered _)))))

location_accept-numbered : (n : ℕ) → Numbered (location_accept n)
unfolding location_accept accept_body
location_accept-numbered n =
    exactly-numbered n _
    (bind_numbered (field flag_width) _ (field-numbered flag_width) (λ a. bind_numbered accept_reserved _ (pass-numbered flag_width)
    (λ z. bind_numbered (nested downlinks group_identity_downlink_identifier) _ (nested-numbered downlinks group_identity_downlink_identifier downlink-numbered) (λ l. got-numbered _))))

kind-numbered : (k : Kind) (n : ℕ) → Numbered (kind_content k n)
kind-numbered K.Type3 = type3-numbered
kind-numbered K.Type4 = type4-numbered
kind-numbered K.LocationDemand = location_demand-numbered
kind-numbered K.LocationAccept = location_accept-numbered
kind-numbered K.Downlinks = list-numbered downlinks downlink-numbered

pub content-numbered : (r : Row) (n : ℕ) → Numbered (content r n)
unfolding content
content-numbered r n = bind_numbered (kind_content r.kind n) _ (kind-numbered r.kind n) (λ v. got-numbered _)
