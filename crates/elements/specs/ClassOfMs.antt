-- Class of MS (EN 300 392-2, clause 16.10.5): 24 bits, top bit first, the 22 fields in order.
use Rattle.std.specs.Prelude.{ℕ, ◌+◌, ◌/◌, ◌%◌, ◌^◌, Bool, true, ◌&&◌, List, [], ◌∷◌, ◌++◌, get_or, is_some}
use Rattle.std.specs.Prelude.{Option}
use Rattle.bits.specs.Bits.{Bits, digits}
use Rattle.bits.specs.Reader.{Reader, got, then, ◌>>=◌, field}
use Rattle.elements.specs.Numbers.{value_or, in_width}
use Rattle.elements.specs.declared.class_of_ms.ClassOfMs.{ClassOfMs}
use Rattle.elements.specs.declared.class_of_ms.OptionalClassOfMs.{OptionalClassOfMs}

-- ## numbers of given widths, one after the other

unfoldable pub numbers : List ℕ → Reader (List ℕ)
numbers [] bs = got [] bs
numbers (w ∷ ws) bs = then (field w bs) (λ v rest. then (numbers ws rest) (λ vs. got (v ∷ vs)))

unfoldable pub numbers_bits : List ℕ → List ℕ → Bits
numbers_bits [] vs = []
numbers_bits (w ∷ ws) [] = []
numbers_bits (w ∷ ws) (v ∷ vs) = digits w v ++ numbers_bits ws vs

unfoldable pub numbers_fit : List ℕ → List ℕ → Bool
numbers_fit [] vs = true
numbers_fit (w ∷ ws) [] = true
numbers_fit (w ∷ ws) (v ∷ vs) = in_width w v && numbers_fit ws vs

-- ## the element

-- air_interface_version has 3 bits, each other field 1
abbrev pub class_widths : List ℕ
class_widths =
    1 ∷ 1 ∷ 1 ∷ 1 ∷ 1 ∷ 1 ∷ 1 ∷ 1 ∷ 1 ∷ 1 ∷ 1 ∷ 1 ∷ 1 ∷ 1 ∷ 1 ∷ 1 ∷ 3 ∷ 1 ∷ 1 ∷ 1 ∷ 1 ∷ 1 ∷ []

-- the fields in order
abbrev pub class_fields : ClassOfMs → List ℕ
class_fields m =
    m.freq_simplex_duplex ∷ m.multislot_phase_mod ∷ m.concurrent_multicarrier ∷ m.voice ∷ m.e2e_encryption_not_supported ∷ m.circuit_mode_data
    ∷ m.tetra_packet_data ∷ m.fast_switching ∷ m.dck_encryption ∷ m.clch_needed ∷ m.concurrent_circuit_mode ∷ m.original_advanced_link
    ∷ m.minimum_mode ∷ m.carrier_specific_signalling ∷ m.authentication ∷ m.sck_encryption ∷ m.air_interface_version ∷ m.common_scch
    ∷ m.reserved_21 ∷ m.mac_d_blck ∷ m.extended_advanced_link ∷ m.d8psk ∷ []

-- and back
abbrev pub class_of : List ℕ → ClassOfMs
class_of vs = record {
  freq_simplex_duplex = get_or vs 0 0;
  multislot_phase_mod = get_or vs 1 0;
  concurrent_multicarrier = get_or vs 2 0;
  voice = get_or vs 3 0;
  e2e_encryption_not_supported = get_or vs 4 0;
  circuit_mode_data = get_or vs 5 0;
  tetra_packet_data = get_or vs 6 0;
  fast_switching = get_or vs 7 0;
  dck_encryption = get_or vs 8 0;
  clch_needed = get_or vs 9 0;
  concurrent_circuit_mode = get_or vs 10 0;
  original_advanced_link = get_or vs 11 0;
  minimum_mode = get_or vs 12 0;
  carrier_specific_signalling = get_or vs 13 0;
  authentication = get_or vs 14 0;
  sck_encryption = get_or vs 15 0;
  air_interface_version = get_or vs 16 0;
  common_scch = get_or vs 17 0;
  reserved_21 = get_or vs 18 0;
  mac_d_blck = get_or vs 19 0;
  extended_advanced_link = get_or vs 20 0;
  d8psk = get_or vs 21 0;
}

abbrev pub no_class : ClassOfMs
no_class = class_of []

abbrev pub class_option : Option ClassOfMs → OptionalClassOfMs
class_option o = record { present = is_some o; value = value_or no_class o }

unfoldable pub class_of_ms_element : Reader ClassOfMs
class_of_ms_element = numbers class_widths >>= λ vs. got (class_of vs)

unfoldable pub class_bits : ClassOfMs → Bits
class_bits m = numbers_bits class_widths (class_fields m)

-- QUESTION 8
unfoldable pub class_fits : ClassOfMs → Bool
class_fits m = numbers_fit class_widths (class_fields m)

-- ## numbers as parts of one word

unfoldable pub sum : List ℕ → ℕ
sum [] = 0
sum (w ∷ ws) = w + sum ws

-- the numbers of given widths that stand in the number v, the last one lowest
unfoldable pub split : List ℕ → ℕ → List ℕ
split [] v = []
split (w ∷ ws) v = v / 2 ^ sum ws % 2 ^ w ∷ split ws v
