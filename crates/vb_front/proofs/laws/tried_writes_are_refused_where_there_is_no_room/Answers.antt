use Rattle.vb_front.proofs.TriedRoomLemmas.{tried_quota_is_want_of_room}
use Rattle.vb_front.proofs.laws.tried_writes_are_refused_where_there_is_no_room.Goals as goal

pub returns : goal.returns
returns c = tried_quota_is_want_of_room
