-- A message written over and over: the octets behind the last writing call, and the number of bits that it wrote.
use Rattle.std.specs.Prelude.{ℕ, zero, suc, ◌+◌, ◌≡◌, refl, List}
use Rattle.std.proofs.Common.{ap, ◌∙◌, add-one}
use Rattle.messages.specs.Calls.{written_as, octets_as}
use Rattle.messages.specs.declared.Message.{Message}
use Rattle.messages.specs.declared.Record.{Record}
use Rattle.messages.specs.declared.Writing.{Writing}

pub record Written : Type 0 where
  pub bits : ℕ
  pub octets : List ℕ

unfoldable pub repeated : Message → ℕ → ℕ → Record → ℕ → List ℕ → Written
repeated m first end r zero os = record { bits = 0; octets = os }
repeated m first end r (suc n) os =
    record { bits = (written_as m (repeated m first end r n os).octets first end r).written; octets = octets_as m (repeated m first end r n os).octets first end r }

-- after n calls
pub record Turned (m : Message) (first end : ℕ) (r : Record) (n : ℕ) (os₀ : List ℕ) (b : ℕ) (os : List ℕ) : Type 0 where
  pub bits : b ≡ (repeated m first end r n os₀).bits
  pub octets : os ≡ (repeated m first end r n os₀).octets

module _ (m : Message) (first end : ℕ) (r : Record) (os₀ : List ℕ) where
  pub unturned : Turned m first end r 0 os₀ 0 os₀
  unfolding repeated
  unturned = record { bits = refl; octets = refl }

  pub turned : (n : ℕ) {b : ℕ} {os os' : List ℕ} {w : Writing} → Turned m first end r n os₀ b os → w ≡ written_as m os first end r → os' ≡ octets_as m os first end r
      → Turned m first end r (n + 1) os₀ w.written os'
  unfolding repeated
  turned n t e o =
      rw (add-one n) (record { bits = ap (λ (x : Writing). x.written) e ∙ ap (λ (os : List ℕ). (written_as m os first end r).written) t.octets; octets = o ∙ ap (λ (os : List ℕ). octets_as m os first end r) t.octets })
