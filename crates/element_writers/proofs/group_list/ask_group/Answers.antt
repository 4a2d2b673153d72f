-- `element_writers::group_list::ask_group` meets its contract.
use Rattle.std.proofs.Common.{arith, ◌∙◌}
use Rattle.element_writers.specs.GroupsAsked.{group-asked}
use Rattle.element_writers.proofs.group_list.ask_group.Goals as goal

pub returns : goal.returns
returns g c =
    let k = g.L.ListWriter in
    let h = g.met.L.ListWriter in
    let i = c.args.g in
    let few = h.few in (
      rw (
        c.attachment_fits.ensures,
        c.ask_type2.ensures,
        c.address_fits.ensures,
        c.address_type.ensures,
        c.ADDRESS_TYPES.ensures,
        c.width_if.ensures.0,
        c.width_if-2.ensures.0,
        c.address_size.ensures.0,
        c.ATTACHMENT_WIDTH.ensures,
        c.is_some-u.ensures,
        c.is_some-d.ensures,
        c.attachment-attachment.ensures,
        c.detachment-detachment.ensures,
        c.address-a.ensures,
      )
          (group-asked k.bits k.fits h.wide k.forms h.types (k.attachment i) (k.detachment i) (k.address i) ∙ h.asked i),
      omega arith,
    )
