use Rattle.vb_front.proofs.WayLemmas.{write_steps_are_apart, write_follows_its_condition, waiting_writes_ask_nothing, room_lacks_for_one, quota_is_want_of_room}
use Rattle.vb_front.proofs.laws.writes_come_to_one_step.Goals as goal

pub returns-clause-apart : goal.returns-clause-apart
returns-clause-apart c = write_steps_are_apart

pub returns-clause-follows : goal.returns-clause-follows
returns-clause-follows c = write_follows_its_condition

pub returns-clause-waits : goal.returns-clause-waits
returns-clause-waits c = waiting_writes_ask_nothing

pub returns-clause-room : goal.returns-clause-room
returns-clause-room c = room_lacks_for_one

pub returns-clause-quota : goal.returns-clause-quota
returns-clause-quota c = quota_is_want_of_room
