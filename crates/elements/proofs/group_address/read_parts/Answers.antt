-- `elements::group_address::read_parts` meets its contract: the parts of a form, one after the other.
use Rattle.bits.specs.Reader.{word}
use Rattle.bits.specs.ReaderLaws.{local·rules}
use Rattle.bits.specs.PlacedLaws.{so, from, handed_up, step, stop, done}
use Rattle.elements.specs.Groups.{address_of}
use Rattle.elements.proofs.PlacedOptional.{from-option}
use Rattle.elements.proofs.group_address.read_parts.Goals as goal

pub returns-in_err-gssi : goal.returns-in_err-gssi
unfolding word address_of
returns-in_err-gssi c = handed_up _ c.from_residual.ensures.1 (stop _ (from c.in_err-gssi.ensures))

pub returns-in_err-address_extension : goal.returns-in_err-address_extension
unfolding word address_of
returns-in_err-address_extension c =
    handed_up _ c.from_residual-in_err-address_extension.ensures.1
    (step _ (from-option c.in_ok-gssi.ensures) (search local·rules) (stop _ (from c.in_err-address_extension.ensures)))

pub returns-in_err-vgssi : goal.returns-in_err-vgssi
unfolding word address_of
returns-in_err-vgssi c =
    handed_up _ c.from_residual-in_err-vgssi.ensures.1
    (step _ (from-option c.in_ok-gssi.ensures) (search local·rules)
    (step _ (from-option c.in_ok-address_extension.ensures) (search local·rules) (stop _ (from c.in_err-vgssi.ensures))))

pub returns : goal.returns
unfolding word address_of
returns c =
    so
    (step _ (from-option c.in_ok-gssi.ensures) (search local·rules)
    (step _ (from-option c.in_ok-address_extension.ensures) (search local·rules)
    (step _ (from-option c.in_ok-vgssi.ensures) (search local·rules) done)))
