-- Laws of the energy saving information.
use Rattle.std.specs.Prelude.{ℕ, ◌+◌, ◌^◌, ◌≡◌, refl, Bool, true, false, not, ◌&&◌, ◌||◌, List, ◌++◌, eqb, is_some}
use Rattle.std.proofs.Common.{sym, append_assoc, pow_pos, lt-ltb}
use Rattle.std.specs.Prelude.{Option, None, Some}
use Rattle.std.proofs.lemmas.Bool.{not-true}
use Rattle.bits.specs.Bits.{Bits}
use Rattle.bits.specs.Reader.{got, ◌>>=◌, field, Local}
use Rattle.bits.specs.ReaderLaws.{local·rules, split-then, Passes, field-passes, got-passes, bind_passes}
use Rattle.bits.specs.Placed.{Placed, placed, halted}
use Rattle.bits.specs.PlacedLaws.{Gives, step, stop}
use Rattle.bits.specs.declared.bitbuffer.Cursor.{Cursor}
use Rattle.elements.proofs.PlacedOptional.{ends}
use Rattle.elements.specs.Numbers.{value_or, held, option_all, in_width}
use Rattle.elements.proofs.NumbersLaws.{both, number-back, held-option, same_u8, same_u8_self}
use Rattle.elements.specs.EnergySaving.{saving_mode_width, frame_width, multiframe_width, stay_alive, saving_of, energy_saving, frame_in, multiframe_in, saving_bits, saving_fits, alive_has_none, others_have_both, saving_normal, SameSaving}
use Rattle.elements.specs.declared.energy_saving_information.EnergySavingInformation.{EnergySavingInformation}
use Rattle.bits.specs.declared.pdu_parse_error.PduParseErr.{PduParseErr}

pub saving-local : Local energy_saving
unfolding energy_saving
saving-local = search local·rules depth 8

pub saving-passes : Passes (saving_mode_width + (frame_width + multiframe_width)) energy_saving
unfolding energy_saving
saving-passes =
    bind_passes saving_mode_width (frame_width + multiframe_width) (field saving_mode_width) _ refl (field-passes saving_mode_width)
    (λ m. bind_passes frame_width multiframe_width (field frame_width) _ refl (field-passes frame_width)
    (λ f. bind_passes multiframe_width 0 (field multiframe_width) _ refl (field-passes multiframe_width) (λ n. got-passes _)))

-- ## at a cursor

-- a number behind the mode: StayAlive has none
abbrev number_of : ℕ → ℕ → Option ℕ
number_of m v = held (not (eqb m stay_alive)) v

module _ {os : List ℕ} {c : Cursor} {m : ℕ} {c₁ : Cursor} (e₁ : Gives (field saving_mode_width) os c (placed m c₁)) where
  pub no_frame : {k : PduParseErr} → Gives (field frame_width) os c₁ (halted k) → Gives energy_saving os c (halted k)
  unfolding energy_saving
  no_frame e = step _ e₁ (search local·rules) (stop _ e)

  module _ {f : ℕ} {c₂ : Cursor} (e₂ : Gives (field frame_width) os c₁ (placed f c₂)) where
    behind-frame : {x : Placed EnergySavingInformation} → Gives (field multiframe_width >>= λ n. got (saving_of m (number_of m f) (number_of m n))) os c₂ x → Gives energy_saving os c x
    unfolding energy_saving
    behind-frame g = step _ e₁ (search local·rules) (step _ e₂ (search local·rules) g)

    pub no_multiframe : {k : PduParseErr} → Gives (field multiframe_width) os c₂ (halted k) → Gives energy_saving os c (halted k)
    no_multiframe e = behind-frame (stop _ e)

    pub whole-saving : {n : ℕ} {c₃ : Cursor} {s : EnergySavingInformation} → Gives (field multiframe_width) os c₂ (placed n c₃)
        → saving_of m (number_of m f) (number_of m n) ≡ s → Gives energy_saving os c (placed s c₃)
    whole-saving e q = behind-frame (step _ e (search local·rules) (ends q))

-- ## reading back

-- questions 12 and 13 together: the numbers are there where the mode is not StayAlive
there : (alive p q : Bool) → (not alive || (not p && not q)) ≡ true → (alive || (p && q)) ≡ true → (not alive ≡ p) × (not alive ≡ q)
there true p q h k = let x = both (not p) (not q) h in (sym (not-true p x.0), sym (not-true q x.1))
there false p q h k = let x = both p q k in (sym x.0, sym x.1)

-- a number that is there exactly where the test holds
held-there : (b : Bool) (o : Option ℕ) → b ≡ is_some o → held b (value_or 0 o) ≡ o
held-there b o e = rw e (held-option 0 o)

-- the 0 for what is absent fits any width
value-fits : (w : ℕ) (o : Option ℕ) → option_all (in_width w) o ≡ true → in_width w (value_or 0 o) ≡ true
value-fits w None h = lt-ltb 0 (2 ^ w) (pow_pos w)
value-fits w (Some v) h = h

pub saving-back : (e : EnergySavingInformation) → saving_fits e ≡ true → alive_has_none e ≡ true → others_have_both e ≡ true → (rest : Bits)
    → energy_saving (saving_bits e ++ rest) ≡ got (saving_normal e) rest
unfolding energy_saving saving_bits saving_fits alive_has_none others_have_both saving_normal
saving-back e f none-alive both-else rest =
    let m : ℕ = e.energy_saving_mode in
    let x = both (in_width saving_mode_width m) _ f in
    let y = both (option_all (in_width frame_width) (frame_in e)) _ x.1 in
    let t = there (eqb m stay_alive) (is_some (frame_in e)) (is_some (multiframe_in e)) none-alive both-else in
    simp append_assoc
    (rw (number-back saving_mode_width m x.0 _)
    (rw (number-back frame_width (value_or 0 (frame_in e)) (value-fits frame_width (frame_in e) y.0) _)
    (rw (number-back multiframe_width (value_or 0 (multiframe_in e)) (value-fits multiframe_width (multiframe_in e) y.1) _)
    (rw (held-there _ (frame_in e) t.0, held-there _ (multiframe_in e) t.1)))))

-- ## the normal form

pub saving-same : {e f : EnergySavingInformation} → SameSaving e f → saving_normal e ≡ saving_normal f
unfolding saving_normal
saving-same s = λ i. record { energy_saving_mode = s.mode i; frame_number = same_u8 s.frame i; multiframe_number = same_u8 s.multiframe i }

pub saving_normal-same : (e : EnergySavingInformation) → SameSaving e (saving_normal e)
unfolding saving_normal
saving_normal-same e = record { mode = refl; frame = same_u8_self e.frame_number; multiframe = same_u8_self e.multiframe_number }

-- what was read is its own normal form
pub saving-own : (bs : Bits) {e : EnergySavingInformation} {rest : Bits} → energy_saving bs ≡ got e rest → saving_normal e ≡ e
unfolding energy_saving saving_normal
saving-own bs {e} h =
    split-then (field saving_mode_width bs) _ h (λ m b₁ p₁ q₁.
    split-then (field frame_width b₁) _ q₁ (λ f b₂ p₂ q₂.
    split-then (field multiframe_width b₂) _ q₂ (λ n b₃ p₃ q₃.
    let x : Option ℕ = held (not (eqb m stay_alive)) f in
    let y : Option ℕ = held (not (eqb m stay_alive)) n in
    let made : saving_of m x y ≡ e = cc in
    rw (← made) (λ i. saving_of m (held-option 0 x i) (held-option 0 y i)))))
