-- THE MESSAGES, each from its description: they are regular, what was written is read back, and what is read is in normal form.
use Rattle.std.specs.Prelude.{◌≡◌, refl, Bool, true, false, ◌++◌}
use Rattle.std.proofs.Common.{sym, ap, ◌∙◌}
use Rattle.bits.specs.Bits.{Bits}
use Rattle.bits.specs.Reader.{got}
use Rattle.elements.specs.Numbers.{in_width}
use Rattle.elements.specs.Table.{Counted, counted, is_listed}
use Rattle.elements.proofs.TableBack.{distinct}
use Rattle.elements.specs.Kinds.{identifier_of, content}
use Rattle.elements.proofs.KindsLaws.{content-local, content-passes}
use Rattle.messages.specs.Head.{pdu_type_width, ssi_width, extension_width}
use Rattle.messages.proofs.Demand3.{Regular}
use Rattle.messages.specs.Description.{Values, normal}
use Rattle.messages.specs.Accept.{subscriber_class_width, scch_width}
use Rattle.messages.specs.Calls.{description_of, type_of, tie_of, alone, values_of, record_of, format_of, read_message, message_bits, message_asked, message_normal, SameMessage}
use Rattle.messages.specs.declared.Message.{Message}
use Rattle.messages.specs.declared.Message.TheVariants as M
use Rattle.messages.specs.declared.Record.{Record}
use Rattle.messages.specs.Questions.{fits}
use Rattle.messages.proofs.DescriptionLaws.{Readable, AllSound}
use Rattle.messages.proofs.Type2Laws.{numeral-sound, saving_mode-sound, la-sound, class-sound, energy_saving-sound}
use Rattle.messages.proofs.SlotsLaws.{FullSlots}
use Rattle.messages.proofs.DescribedLaws.{regular-head, values-back, WasRead, values-read, normal-equal, normal_same}

-- ## what is asked of each message

pub all_sound : (m : Message) → AllSound (description_of m).options
all_sound M.Demand = (class-sound, (saving_mode-sound, (la-sound, (numeral-sound ssi_width, (numeral-sound extension_width, tt)))))
all_sound M.Accept =
    (numeral-sound ssi_width, (numeral-sound extension_width, (numeral-sound subscriber_class_width, (energy_saving-sound, (numeral-sound scch_width, tt)))))
all_sound M.AttachDetach = tt

-- its record holds what it is made of
values-kept : (m : Message) (v : Values (description_of m)) → values_of m (record_of m v) ≡ v
values-kept M.Demand v = refl
values-kept M.Accept v = refl
values-kept M.AttachDetach v = refl

type-fits : (m : Message) → in_width pdu_type_width (type_of m) ≡ true
type-fits M.Demand = refl
type-fits M.Accept = refl
type-fits M.AttachDetach = refl

table-distinct : (m : Message) → distinct identifier_of (description_of m).table ≡ true
unfolding distinct is_listed
table-distinct M.Demand = refl
table-distinct M.Accept = refl
table-distinct M.AttachDetach = refl

-- ## and so

pub messages_regular : (m : Message) → Regular content (format_of m)
messages_regular m = record {
  contents_local = content-local;
  contents_pass = content-passes;
  heads = regular-head (description_of m) (all_sound m) (tie_of m) (alone m);
}

-- the arrays of a record's lists have all their entries, where the lists are there
abbrev pub FullRecord : Message → Record → Type 0
FullRecord m r = FullSlots (description_of m).table (values_of m r).slots

-- WHAT WAS WRITTEN IS READ BACK, in normal form
pub read_back : (m : Message) (r : Record) → FullRecord m r → Readable (message_asked m r) → (rest : Bits)
    → read_message m false (message_bits m r ++ rest) ≡ got (counted 0 (message_normal m r)) rest
read_back m r full y rest = values-back (description_of m) (all_sound m) (tie_of m) (alone m) (type-fits m) (table-distinct m) (values_of m r) full y rest

module _ (m : Message) (b : Bool) (bs : Bits) {x : Counted Record} {rest : Bits} (e : read_message m b bs ≡ got x rest) where
  was-read : WasRead (description_of m) (all_sound m) (tie_of m) (alone m) x.value
  was-read = values-read (description_of m) (all_sound m) (tie_of m) (alone m) b bs e

  values-are : values_of m x.value ≡ was-read.values
  values-are = ap (values_of m) (sym was-read.is) ∙ values-kept m was-read.values

  -- A RECORD THAT A READING GIVES is its own normal form, and its arrays are full
  pub read-own : message_normal m x.value ≡ x.value
  read-own = ap (record_of m) (ap (normal (description_of m)) values-are ∙ was-read.own) ∙ was-read.is

  pub read-full : FullRecord m x.value
  read-full = rw values-are was-read.full

-- RECORDS THAT ARE THE SAME have one normal form
pub same-normal : (m : Message) (r s : Record) → SameMessage m r s → message_normal m r ≡ message_normal m s
same-normal m r s e = ap (record_of m) (normal-equal (description_of m) (all_sound m) (values_of m r) (values_of m s) e)

-- A RECORD that passes question 8 is the same as its normal form
pub normal-same : (m : Message) (r : Record) → FullRecord m r → message_asked m r fits ≡ true → SameMessage m r (message_normal m r)
normal-same m r full y =
    rw (values-kept m (normal (description_of m) (values_of m r))) (normal_same (description_of m) (all_sound m) (values_of m r) full y)
