-- The type 2 elements of the messages are sound.
use Rattle.std.specs.Prelude.{ℕ, ◌*◌, ◌^◌, ◌<◌, ◌≡◌, refl, Bool, true, false, ◌++◌, length}
use Rattle.std.proofs.Common.{arith, sym, ltb-true}
use Rattle.bits.specs.Bits.{Bits, digits}
use Rattle.bits.specs.BitsLaws.{length_digits}
use Rattle.bits.specs.Reader.{got, field}
use Rattle.bits.specs.ReaderLaws.{local·rules, field-local, field-passes, field_back, bind_passes, got-passes}
use Rattle.elements.proofs.NumbersLaws.{never, number-back, held-option}
use Rattle.elements.specs.Numbers.{in_width}
use Rattle.elements.proofs.Numbered.{field-numbered, numbered·rules, class-numbered, saving-numbered}
use Rattle.elements.specs.ClassOfMs.{numbers_bits, class_bits, class_fits, no_class}
use Rattle.elements.proofs.ClassOfMsLaws.{class-local, class-passes, class_back}
use Rattle.elements.specs.EnergySaving.{saving_mode_width, saving_bits, no_saving}
use Rattle.elements.proofs.EnergySavingLaws.{saving-local, saving-passes, saving-back, saving-same, saving_normal-same, saving-own}
use Rattle.elements.specs.declared.class_of_ms.ClassOfMs.{ClassOfMs}
use Rattle.elements.specs.declared.energy_saving_information.EnergySavingInformation.{EnergySavingInformation}
use Rattle.messages.specs.Questions.{Question, fits, ciphered, attached, formed, alive, saving, type3_only, short}
use Rattle.messages.specs.Description.{only_fits}
use Rattle.messages.specs.Type2Elements.{numeral, saving_mode, la_width, la_value_width, halved, la, class_width, class_of_ms, energy_saving_width, saving_asked, energy_saving_information}
use Rattle.messages.proofs.DescriptionLaws.{of_options, Sound}

only_fits-unasked : (b : Bool) (q : Question) → of_options q ≡ false → only_fits b q ≡ true
only_fits-unasked b fits e = never (sym e)
only_fits-unasked b ciphered e = refl
only_fits-unasked b attached e = refl
only_fits-unasked b formed e = refl
only_fits-unasked b alive e = refl
only_fits-unasked b saving e = refl
only_fits-unasked b type3_only e = refl
only_fits-unasked b short e = refl

saving-unasked : (v : EnergySavingInformation) (q : Question) → of_options q ≡ false → saving_asked v q ≡ true
saving-unasked v fits e = never (sym e)
saving-unasked v ciphered e = refl
saving-unasked v attached e = refl
saving-unasked v formed e = refl
saving-unasked v alive e = never (sym e)
saving-unasked v saving e = never (sym e)
saving-unasked v type3_only e = refl
saving-unasked v short e = refl

class-wide : (v : ClassOfMs) → length (class_bits v) ≡ class_width
unfolding class_bits numbers_bits digits
class-wide v = refl

saving-wide : (v : EnergySavingInformation) → length (saving_bits v) ≡ energy_saving_width
unfolding saving_bits digits
saving-wide v = refl

pub numeral-sound : (w : ℕ) → Sound (numeral w)
numeral-sound w = record {
  local = field-local w;
  passes = field-passes w;
  wide = length_digits w;
  back = λ v y rest. number-back w v (y fits refl) rest;
  own = λ bs e. refl;
  same = λ v w e. e;
  normal-same = λ v. refl;
  unasked = λ v q e. only_fits-unasked (in_width w v) q e;
  numbered = field-numbered w;
  held = held-option 0;
}

pub saving_mode-sound : Sound saving_mode
saving_mode-sound = record {
  local = field-local saving_mode_width;
  passes = field-passes saving_mode_width;
  wide = length_digits saving_mode_width;
  back = λ v y rest. number-back saving_mode_width v (y fits refl) rest;
  own = λ bs e. refl;
  same = λ v w e. e;
  normal-same = λ v. refl;
  unasked = λ v q e. only_fits-unasked (in_width saving_mode_width v) q e;
  numbered = field-numbered saving_mode_width;
  held = held-option 0;
}

-- the LA is written twice as large, and halved again
la-back : (v : ℕ) → v < 2 ^ la_value_width → (rest : Bits) → la.read (la.bits v ++ rest) ≡ got v rest
la-back v h rest =
    let twice : halved (2 * v) ≡ v = omega arith in
    rw (field_back la_width (2 * v) rest (omega arith)) (rw twice)

pub la-sound : Sound la
la-sound = record {
  local = search local·rules;
  passes = bind_passes la_width 0 (field la_width) _ refl (field-passes la_width) (λ v. got-passes (halved v));
  wide = λ v. length_digits la_width (2 * v);
  back = λ v y rest. la-back v (ltb-true _ _ (y fits refl)) rest;
  own = λ bs e. refl;
  same = λ v w e. e;
  normal-same = λ v. refl;
  unasked = λ v q e. only_fits-unasked (in_width la_value_width v) q e;
  numbered = search numbered·rules;
  held = held-option 0;
}

pub class-sound : Sound class_of_ms
class-sound = record {
  local = class-local;
  passes = class-passes;
  wide = class-wide;
  back = λ v y rest. class_back v (y fits refl) rest;
  own = λ bs e. refl;
  same = λ v w e. e;
  normal-same = λ v. refl;
  unasked = λ v q e. only_fits-unasked (class_fits v) q e;
  numbered = class-numbered;
  held = held-option no_class;
}

pub energy_saving-sound : Sound energy_saving_information
energy_saving-sound = record {
  local = saving-local;
  passes = saving-passes;
  wide = saving-wide;
  back = λ v y rest. saving-back v (y fits refl) (y alive refl) (y saving refl) rest;
  own = λ bs e. saving-own bs e;
  same = λ v w e. saving-same e;
  normal-same = saving_normal-same;
  unasked = saving-unasked;
  numbered = saving-numbered;
  held = held-option no_saving;
}
