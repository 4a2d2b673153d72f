-- `element_writers::group_list::group_front` meets its contract.
use Rattle.bits.specs.DigitsLaws.{no_digits, ◌▹◌}
use Rattle.element_writers.proofs.group_list.group_front.Goals as goal

pub returns : goal.returns
returns g c =
    rw (c.kind_of.ensures, c.is_some.ensures, c.address_type.ensures, c.attachment-attachment.ensures, c.detachment.ensures, c.address-a.ensures)
    at (no_digits ▹ c.then-k.ensures ▹ c.then_attachment-u.ensures ▹ c.then_if-d.ensures ▹ c.then-t.ensures ▹ c.then_if.ensures)
