-- Energy saving information (EN 300 392-2, clause 16.10.10): mode, frame number, multiframe number. StayAlive has neither number: its bits are
-- passed, and written 0.
use Rattle.std.specs.Prelude.{ℕ, ◌≡◌, Bool, not, ◌&&◌, ◌||◌, ◌++◌, eqb, is_some}
use Rattle.std.specs.Prelude.{Option, None}
use Rattle.bits.specs.Bits.{Bits, digits}
use Rattle.bits.specs.Reader.{Reader, got, ◌>>=◌, field}
use Rattle.elements.specs.Numbers.{value_or, held, option_all, in_width, u8_of, in_u8, SameU8}
use Rattle.elements.specs.declared.energy_saving_information.EnergySavingInformation.{EnergySavingInformation}
use Rattle.elements.specs.declared.energy_saving_information.OptionalEnergySavingInformation.{OptionalEnergySavingInformation}

abbrev pub saving_mode_width : ℕ
saving_mode_width = 3

abbrev pub frame_width : ℕ
frame_width = 5

abbrev pub multiframe_width : ℕ
multiframe_width = 6

abbrev pub stay_alive : ℕ
stay_alive = 0

abbrev pub saving_of : ℕ → Option ℕ → Option ℕ → EnergySavingInformation
saving_of m f n = record { energy_saving_mode = m; frame_number = u8_of f; multiframe_number = u8_of n }

abbrev pub no_saving : EnergySavingInformation
no_saving = saving_of 0 None None

abbrev pub saving_option : Option EnergySavingInformation → OptionalEnergySavingInformation
saving_option o = record { present = is_some o; value = value_or no_saving o }

unfoldable pub energy_saving : Reader EnergySavingInformation
energy_saving =
    field saving_mode_width >>= λ m. field frame_width >>= λ f. field multiframe_width >>= λ n.
    got (saving_of m (held (not (eqb m stay_alive)) f) (held (not (eqb m stay_alive)) n))

abbrev pub frame_in : EnergySavingInformation → Option ℕ
frame_in e = in_u8 e.frame_number

abbrev pub multiframe_in : EnergySavingInformation → Option ℕ
multiframe_in e = in_u8 e.multiframe_number

unfoldable pub saving_bits : EnergySavingInformation → Bits
saving_bits e =
    digits saving_mode_width e.energy_saving_mode
    ++ (digits frame_width (value_or 0 (frame_in e)) ++ digits multiframe_width (value_or 0 (multiframe_in e)))

-- QUESTION 8
unfoldable pub saving_fits : EnergySavingInformation → Bool
saving_fits e =
    in_width saving_mode_width e.energy_saving_mode
    && (option_all (in_width frame_width) (frame_in e) && option_all (in_width multiframe_width) (multiframe_in e))

-- QUESTION 12: StayAlive has neither
unfoldable pub alive_has_none : EnergySavingInformation → Bool
alive_has_none e = not (eqb e.energy_saving_mode stay_alive) || (not (is_some (frame_in e)) && not (is_some (multiframe_in e)))

-- QUESTION 13: the other modes have both
unfoldable pub others_have_both : EnergySavingInformation → Bool
others_have_both e = eqb e.energy_saving_mode stay_alive || (is_some (frame_in e) && is_some (multiframe_in e))

unfoldable pub saving_normal : EnergySavingInformation → EnergySavingInformation
saving_normal e = saving_of e.energy_saving_mode (frame_in e) (multiframe_in e)

pub record SameSaving (e f : EnergySavingInformation) : Type 0 where
  pub mode : e.energy_saving_mode ≡ f.energy_saving_mode
  pub frame : SameU8 e.frame_number f.frame_number
  pub multiframe : SameU8 e.multiframe_number f.multiframe_number
