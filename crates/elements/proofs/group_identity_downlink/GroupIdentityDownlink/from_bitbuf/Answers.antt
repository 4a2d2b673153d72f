-- `elements::group_identity_downlink::GroupIdentityDownlink::from_bitbuf` meets its contract: its parts, one after the other.
use Rattle.std.specs.Prelude.{Some, None}
use Rattle.std.proofs.Common.{sym}
use Rattle.bits.specs.Reader.{word}
use Rattle.bits.specs.ReaderLaws.{local·rules, local_tail, optional-local}
use Rattle.bits.specs.PlacedLaws.{so, from, handed_up, step, stop}
use Rattle.elements.specs.Groups.{downlink, downlink_address}
use Rattle.elements.specs.TraitLaws.{attachment_info-local, downlink_address-local}
use Rattle.elements.proofs.PlacedOptional.{from-option, ends}
use Rattle.elements.proofs.group_identity_downlink.GroupIdentityDownlink.from_bitbuf.Goals as goal

pub returns-in_err-kind : goal.returns-in_err-kind
unfolding word downlink
returns-in_err-kind c = handed_up _ c.from_residual.ensures.1 (stop _ (from c.in_err-kind.ensures))

pub returns-in_err-attachment : goal.returns-in_err-attachment
unfolding word downlink
returns-in_err-attachment c =
    handed_up _ c.from_residual-in_err-attachment.ensures.1
    (step _ (from c.in_ok-kind.ensures) (search local·rules) (stop _ (from c.in_err-attachment.ensures)))

pub returns-in_err-detachment : goal.returns-in_err-detachment
unfolding word downlink
returns-in_err-detachment c =
    handed_up _ c.from_residual-in_err-detachment.ensures.1
    (step _ (from c.in_ok-kind.ensures) (search local·rules)
    (step _ (from c.in_ok-attachment.ensures) (local_tail (optional-local Some None _ _ attachment_info-local)) (stop _ (from c.in_err-detachment.ensures))))

pub returns-in_err-address : goal.returns-in_err-address
unfolding word downlink downlink_address
returns-in_err-address c =
    handed_up _ c.from_residual-in_err-address.ensures.1
    (step _ (from c.in_ok-kind.ensures) (search local·rules)
    (step _ (from c.in_ok-attachment.ensures) (local_tail (optional-local Some None _ _ attachment_info-local))
    (step _ (from-option c.in_ok-detachment.ensures) (search local·rules) (stop _ (from c.in_err-address.ensures)))))

pub returns : goal.returns
unfolding word downlink downlink_address
returns c =
    so
    (step _ (from c.in_ok-kind.ensures) (search local·rules)
    (step _ (from c.in_ok-attachment.ensures) (local_tail (optional-local Some None _ _ attachment_info-local))
    (step _ (from-option c.in_ok-detachment.ensures) (search local·rules)
    (step _ (from c.in_ok-address.ensures) (local_tail downlink_address-local) (ends (sym c.group_of.ensures))))))
