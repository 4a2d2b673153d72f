-- The type 2 elements of the messages (EN 300 392-2, annex E): each is there where its P-bit is 1.
use Rattle.std.specs.Prelude.{ℕ, ◌*◌, ◌/◌, ◌≡◌, true}
use Rattle.bits.specs.Bits.{digits}
use Rattle.bits.specs.Reader.{got, ◌>>=◌, field}
use Rattle.elements.specs.Numbers.{held, in_width, u8_of, in_u8, u64_of, in_u64}
use Rattle.elements.specs.ClassOfMs.{class_of_ms_element, class_bits, class_fits, class_option}
use Rattle.elements.specs.EnergySaving.{saving_mode_width, energy_saving, saving_bits, saving_fits, alive_has_none, others_have_both, saving_normal, SameSaving, saving_option}
use Rattle.elements.specs.declared.typed_pdu_fields.OptionalU8.{OptionalU8}
use Rattle.elements.specs.declared.typed_pdu_fields.OptionalU64.{OptionalU64}
use Rattle.elements.specs.declared.class_of_ms.ClassOfMs.{ClassOfMs}
use Rattle.elements.specs.declared.class_of_ms.OptionalClassOfMs.{OptionalClassOfMs}
use Rattle.elements.specs.declared.energy_saving_information.EnergySavingInformation.{EnergySavingInformation}
use Rattle.elements.specs.declared.energy_saving_information.OptionalEnergySavingInformation.{OptionalEnergySavingInformation}
use Rattle.messages.specs.Questions.{Asked, fits, alive, saving}
use Rattle.messages.specs.Description.{Type2, only_fits}

-- a number of w bits
abbrev pub numeral : ℕ → Type2
numeral w = record {
  Value = ℕ;
  width = w;
  read = field w;
  bits = digits w;
  asked = λ v. only_fits (in_width w v);
  normal = λ v. v;
  Same = ◌≡◌;
  Stored = OptionalU64;
  stored = u64_of;
  held = in_u64;
}

-- energy saving mode (clause 16.10.9)
abbrev pub saving_mode : Type2
saving_mode = record {
  Value = ℕ;
  width = saving_mode_width;
  read = field saving_mode_width;
  bits = digits saving_mode_width;
  asked = λ v. only_fits (in_width saving_mode_width v);
  normal = λ v. v;
  Same = ◌≡◌;
  Stored = OptionalU8;
  stored = u8_of;
  held = in_u8;
}

-- LA, and one bit more: the record holds the LA, half of the number
abbrev pub la_width : ℕ
la_width = 15

abbrev pub la_value_width : ℕ
la_value_width = 14

abbrev pub halved : ℕ → ℕ
halved v = v / 2

abbrev pub la : Type2
la = record {
  Value = ℕ;
  width = la_width;
  read = field la_width >>= λ v. got (halved v);
  bits = λ v. digits la_width (2 * v);
  asked = λ v. only_fits (in_width la_value_width v);
  normal = λ v. v;
  Same = ◌≡◌;
  Stored = OptionalU64;
  stored = u64_of;
  held = in_u64;
}

abbrev pub class_width : ℕ
class_width = 24

abbrev pub class_of_ms : Type2
class_of_ms = record {
  Value = ClassOfMs;
  width = class_width;
  read = class_of_ms_element;
  bits = class_bits;
  asked = λ v. only_fits (class_fits v);
  normal = λ v. v;
  Same = ◌≡◌;
  Stored = OptionalClassOfMs;
  stored = class_option;
  held = λ s. held s.present s.value;
}

-- mode, frame number and multiframe number
abbrev pub energy_saving_width : ℕ
energy_saving_width = 14

abbrev pub saving_asked : EnergySavingInformation → Asked
saving_asked v fits = saving_fits v
saving_asked v alive = alive_has_none v
saving_asked v saving = others_have_both v
saving_asked v q = true

abbrev pub energy_saving_information : Type2
energy_saving_information = record {
  Value = EnergySavingInformation;
  width = energy_saving_width;
  read = energy_saving;
  bits = saving_bits;
  asked = saving_asked;
  normal = saving_normal;
  Same = SameSaving;
  Stored = OptionalEnergySavingInformation;
  stored = saving_option;
  held = λ s. held s.present s.value;
}
