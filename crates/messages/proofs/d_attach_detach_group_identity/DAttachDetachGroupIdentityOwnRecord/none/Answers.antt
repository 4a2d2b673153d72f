-- `messages::d_attach_detach_group_identity::DAttachDetachGroupIdentityOwnRecord::none` meets its contract: every slot absent.
use Rattle.messages.proofs.d_attach_detach_group_identity.DAttachDetachGroupIdentityOwnRecord.none.Goals as goal

pub returns : goal.returns
returns c = rw (c.record_of.ensures, c.no_list.ensures)
