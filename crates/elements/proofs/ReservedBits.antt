-- The two reserved bits are not alike.
use Rattle.std.specs.Prelude.{suc, ◌≡◌, Bool, true, false, ◌∷◌, length}
use Rattle.std.proofs.Common.{arith, le-leb}
use Rattle.bits.specs.PduParseError.{invalid_value}
use Rattle.bits.specs.Bits.{Bits, number}
use Rattle.bits.specs.Reader.{refused, field, pass}
use Rattle.elements.specs.Locations.{demand_body, accept_body}

-- the demand's has to be 0
pub demand_reserved_lem : (bs : Bits) → demand_body (true ∷ bs) ≡ refused invalid_value
unfolding demand_body field number
demand_reserved_lem bs = rw (le-leb 1 (suc (length bs)) (omega arith))

-- the accept's is whatever it is
pub accept_reserved_lem : (a : Bool) (bs : Bits) → accept_body (a ∷ true ∷ bs) ≡ accept_body (a ∷ false ∷ bs)
unfolding accept_body field pass number
accept_reserved_lem a bs = rw (le-leb 1 (suc (suc (length bs))) (omega arith), le-leb 1 (suc (length bs)) (omega arith))
