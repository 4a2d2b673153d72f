-- `elements::typed_pdu_fields::parse_generic` meets its contract: a content of either kind is read as the code holds it.
use Rattle.std.specs.Prelude.{◌≡◌, refl, true, false, Some}
use Rattle.bits.specs.Bits.{Bits}
use Rattle.bits.specs.Reader.{got, ◌>>=◌}
use Rattle.bits.specs.PlacedLaws.{so, from}
use Rattle.bits.specs.PlacedTimes.{alike}
use Rattle.elements.specs.Generics.{type3, type4}
use Rattle.elements.specs.Kinds.{of_kind, content, stored_in}
use Rattle.elements.specs.Rows.{sized, from_type3, from_type4, generic_type3_at, generic_type4_at, is_type4, generic_row, generic_in, generic_content}
use Rattle.elements.proofs.PlacedTable.{sized-made}
use Rattle.elements.specs.declared.typed_pdu_fields.Kind.{Kind}
use Rattle.elements.specs.declared.typed_pdu_fields.Kind.TheVariants as K
use Rattle.elements.specs.declared.typed_pdu_fields.Row.{Row}
use Rattle.elements.proofs.typed_pdu_fields.parse_generic.Goals as goal

other_kind : (k : Kind) → (k ≡ K.Type4 → ⊥) → is_type4 k ≡ false
other_kind K.Type3 h = refl
other_kind K.Type4 h = absurd (h refl)
other_kind K.LocationDemand h = refl
other_kind K.LocationAccept h = refl
other_kind K.Downlinks h = refl

module _ (r : Row) where
  of_type4 : is_type4 r.kind ≡ true → (bs : Bits) → (sized (content (generic_row r)) >>= λ a. got (generic_in r (Some a))) bs ≡ sized generic_type4_at bs
  unfolding content
  of_type4 t bs = rw t (sized-made type4 (of_kind K.Type4) (λ a. from_type4 (stored_in K.Type4 (Some a))) bs)

  of_type3 : is_type4 r.kind ≡ false → (bs : Bits) → (sized (content (generic_row r)) >>= λ a. got (generic_in r (Some a))) bs ≡ sized generic_type3_at bs
  unfolding content
  of_type3 t bs = rw t (sized-made type3 (of_kind K.Type3) (λ a. from_type3 (stored_in K.Type3 (Some a))) bs)

pub returns-in-Type4 : goal.returns-in-Type4
unfolding generic_content
returns-in-Type4 c = so (alike (sized generic_type4_at) (of_type4 c.args.row (rw c.in-Type4.is) _) (from c.parse_type4_generic.ensures))

pub returns-in_default : goal.returns-in_default
unfolding generic_content
returns-in_default c = so (alike (sized generic_type3_at) (of_type3 c.args.row (other_kind _ c.in_default.not-Type4) _) (from c.parse_type3_generic.ensures))
