-- Laws that the code's traits name: what a group's reader consumes it consumes from the front, a list holds what it is made of, and a
-- slot of a structure's kind reads the structure.
use Rattle.std.specs.Prelude.{ℕ, ◌≡◌, refl, true, false, None, Some}
use Rattle.bits.specs.Reader.{Local, got, ◌>>=◌}
use Rattle.bits.specs.ReaderLaws.{local·rules}
use Rattle.elements.specs.Groups.{address_of, uplink_address, downlink_address, attachment_info, uplink, downlink}
use Rattle.elements.specs.Lists.{Made, uplinks, downlinks}
use Rattle.elements.specs.Kinds.{row, content}
use Rattle.elements.specs.GroupAnswers.{Structures, location_demands, location_accepts}

pub uplink_address-local : Local uplink_address
unfolding uplink_address address_of
uplink_address-local = search local·rules depth 16

pub downlink_address-local : Local downlink_address
unfolding downlink_address address_of
downlink_address-local = search local·rules depth 16

pub attachment_info-local : Local attachment_info
unfolding attachment_info
attachment_info-local = search local·rules depth 8

pub uplink-local : Local uplink
unfolding uplink
uplink-local = search (local·rules, uplink_address-local) depth 16

pub downlink-local : Local downlink
unfolding downlink
downlink-local = search (local·rules, downlink_address-local, attachment_info-local) depth 16

pub uplinks-made : Made uplinks
uplinks-made = record { presence = λ p n gs. refl; count = λ p n gs. refl; groups = λ p n gs. refl }

pub downlinks-made : Made downlinks
downlinks-made = record { presence = λ p n gs. refl; count = λ p n gs. refl; groups = λ p n gs. refl }

-- what a slot of its kind reads is its content, and a record holds it or nothing
pub record Shaped {D O : Type 0} (k : Structures D O) : Type 0 where
  pub content : (i : ℕ) → content (row i k.kind) ≡ (λ n. k.content n >>= λ d. got (k.is d))
  pub held : (d : D) → k.out (Some (k.is d)) ≡ k.make true d
  pub absent : k.out None ≡ k.make false k.none

pub demands-shaped : Shaped location_demands
unfolding content
demands-shaped = record { content = λ i. refl; held = λ d. refl; absent = refl }

pub accepts-shaped : Shaped location_accepts
unfolding content
accepts-shaped = record { content = λ i. refl; held = λ d. refl; absent = refl }
