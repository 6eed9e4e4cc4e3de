use Rattle.std.proofs.Common.{rules, ◌∙◌}
use Rattle.hold_stage.proofs.OwnLemmas.{own_persisted, persisted_covered}
use Rattle.ep_drill.proofs.StageLemmas.{flush_may, flushed_part, flushed_queue, commit_none, commit_failed, commit_good}
use Rattle.ep_drill.proofs.store.commit_batch.Goals as goal

pub returns-in-Failed-clause-flushed : goal.returns-in-Failed-clause-flushed
returns-in-Failed-clause-flushed g c =
    let r = c.requires in
    let done =
    commit_failed (g.S.Stage.front c.args.stage.now) c.args.desk.now c.to-number.result c.state_of-state.result c.args.batch.now
    r.legal r.desk r.sure r.batch c.to-number.ensures c.state_of-state.ensures c.commit.new.self c.in-Failed.ensures.after c.in-Failed.ensures.commits in
    search rules

pub returns-in-NoMemory-clause-flushed : goal.returns-in-NoMemory-clause-flushed
returns-in-NoMemory-clause-flushed g c =
    let r = c.requires in
    commit_none (g.S.Stage.front c.args.stage.now) c.args.desk.now c.to-number.result c.state_of-state.result c.args.batch.now
    r.legal r.desk r.sure r.batch c.to-number.ensures c.state_of-state.ensures c.commit.new.self c.in-NoMemory.ensures.after c.in-NoMemory.ensures.commits c.in-NoMemory.ensures.memory

pub note-requires-clause-covered : goal.note-requires-clause-covered
note-requires-clause-covered g c =
    let q = c.take_queue-queue in
    let d = c.take_desk-part in
    persisted_covered (g.S.Stage.front d.new.stage) c.to-number.result (g.S.Stage.holds c.args.stage.now) (g.S.Stage.holds q.new.stage) (g.S.Stage.holds d.new.stage) q.ensures.held d.ensures.held

pub note-requires-clause-may : goal.note-requires-clause-may
note-requires-clause-may g c =
    let r = c.requires in
    let q = c.take_queue-queue in
    let d = c.take_desk-part in
    flush_may (g.S.Stage.front c.args.stage.now) (g.S.Stage.front q.new.stage) (g.S.Stage.front d.new.stage) c.args.desk.now c.to-number.result c.args.batch.now
    q.ensures.front d.ensures.front c.to-number.ensures r.legal r.desk r.sure r.batch

pub note-requires-clause-own : goal.note-requires-clause-own
note-requires-clause-own g c = own_persisted _ _ _ (c.take_desk-part.ensures.stays.desk ∙ c.take_queue-queue.ensures.stays.desk ∙ c.requires.is_desk)

pub give-requires-clause-stands : goal.give-requires-clause-stands
give-requires-clause-stands g c =
    let r = c.requires in
    let q = c.take_queue-queue in
    let d = c.take_desk-part in
    flushed_part (g.S.Stage.front c.args.stage.now) (g.S.Stage.front q.new.stage) (g.S.Stage.front d.new.stage) c.args.desk.now c.to-number.result c.args.batch.now
    q.ensures.front d.ensures.front c.to-number.ensures r.legal r.desk r.sure r.batch
    (g.S.Stage.front c.note.new.self) (c.note.ensures.alone (d.ensures.stays.telling ∙ q.ensures.stays.telling ∙ r.telling))

pub give-requires-2-clause-stands : goal.give-requires-2-clause-stands
give-requires-2-clause-stands g c =
    let r = c.requires in
    let q = c.take_queue-queue in
    let d = c.take_desk-part in
    flushed_queue (g.S.Stage.front c.args.stage.now) (g.S.Stage.front q.new.stage) (g.S.Stage.front d.new.stage) c.args.desk.now c.to-number.result c.args.batch.now
    q.ensures.front d.ensures.front c.to-number.ensures r.legal r.desk r.sure r.batch
    (g.S.Stage.front c.note.new.self) (g.S.Stage.front c.give.new.self) q.result c.set_persisted.new.self (c.note.ensures.alone (d.ensures.stays.telling ∙ q.ensures.stays.telling ∙ r.telling)) c.give.ensures.front q.ensures.stands c.set_persisted.ensures

pub returns-clause-flushed : goal.returns-clause-flushed
returns-clause-flushed g c =
    let r = c.requires in
    let q = c.take_queue-queue in
    let d = c.take_desk-part in
    commit_good (g.S.Stage.front c.args.stage.now) c.args.desk.now c.to-number.result c.state_of-state.result c.args.batch.now
    r.legal r.desk r.sure r.batch c.to-number.ensures c.state_of-state.ensures
    (g.S.Stage.front q.new.stage) (g.S.Stage.front d.new.stage) (g.S.Stage.front c.note.new.self) (g.S.Stage.front c.give.new.self) (g.S.Stage.front c.give-2.new.self) c.commit.new.self c.set_noted.new.self
    q.ensures.front d.ensures.front (c.note.ensures.alone (d.ensures.stays.telling ∙ q.ensures.stays.telling ∙ r.telling)) c.give.ensures.front c.give-2.ensures.front
    c.in-Good.ensures.after c.in-Good.ensures.commits c.set_noted.ensures
