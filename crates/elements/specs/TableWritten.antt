-- Elements written: the bits of one element, of a slot that may be absent, and of a table up to its closing M-bit.
use Rattle.std.specs.Prelude.{ℕ, List, [], ◌∷◌, ◌++◌, length}
use Rattle.std.specs.Prelude.{Option, None, Some}
use Rattle.bits.specs.Bits.{Bits, digits}
use Rattle.elements.specs.Table.{mbit_width, identifier_width, length_width}

-- M-bit 1, identifier, length, content
unfoldable pub element_bits : ℕ → Bits → Bits
element_bits i xs = digits mbit_width 1 ++ (digits identifier_width i ++ (digits length_width (length xs) ++ xs))

module _ {S A : Type 0} (identifier : S → ℕ) (content_bits : S → A → Bits) where
  abbrev pub slot_bits : S → Option A → Bits
  slot_bits s None = []
  slot_bits s (Some a) = element_bits (identifier s) (content_bits s a)

  -- the slots in order, absent where nothing is given, and the closing M-bit
  unfoldable pub table_bits : List S → List (Option A) → Bits
  table_bits [] vs = digits mbit_width 0
  table_bits (s ∷ ss) [] = table_bits ss []
  table_bits (s ∷ ss) (v ∷ vs) = slot_bits s v ++ table_bits ss vs
