-- `elements::group_identity_location_accept::GroupIdentityLocationAcceptStructure::none` meets its contract: an absent list of groups.
use Rattle.elements.proofs.group_identity_location_accept.GroupIdentityLocationAcceptStructure.none.Goals as goal

pub returns : goal.returns
returns c = rw c.no_list.ensures
