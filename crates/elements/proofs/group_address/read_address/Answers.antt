-- `elements::group_address::read_address` meets its contract: each arm of the match reads the parts of its type; a type that is none of
-- 0, 1 and 2 is 3, since it has two bits.
use native.Mathlib.Omega.{arith}
use Rattle.bits.specs.Reader.{word}
use Rattle.bits.specs.PlacedLaws.{from, handed_up, stop}
use Rattle.elements.proofs.PlacedOptional.{field-small}
use Rattle.elements.proofs.PlacedGroups.{of_type, type_0, type_1, type_2, type_3}
use Rattle.elements.proofs.group_address.read_address.Goals as goal

pub returns-in_err-address_type : goal.returns-in_err-address_type
unfolding word
returns-in_err-address_type g c = handed_up _ c.from_residual.ensures.1 (stop _ (from c.in_err-address_type.ensures))

pub returns-in-0 : goal.returns-in-0
unfolding word
returns-in-0 g c = of_type _ 0 (type_0 _) (from c.in_ok-address_type.ensures) c.in-0.is c.read_parts.ensures

pub returns-in-1 : goal.returns-in-1
unfolding word
returns-in-1 g c = of_type _ 1 (type_1 _) (from c.in_ok-address_type.ensures) c.in-1.is c.read_parts-in-1.ensures

pub returns-in-2 : goal.returns-in-2
unfolding word
returns-in-2 g c = of_type _ 2 (type_2 _) (from c.in_ok-address_type.ensures) c.in-2.is c.read_parts-in-2.ensures

pub returns-in_default : goal.returns-in_default
unfolding word
returns-in_default g c =
    let e = from c.in_ok-address_type.ensures in
    of_type _ 3 (type_3 _) e (omega (arith, field-small 2 e)) c.read_parts-in_default.ensures
