use Rattle.std.proofs.Common.{rules}
use Rattle.ep_drill.proofs.AddLemmas.{stage_bare, stage_home, stage_free, stage_added}
use Rattle.ep_drill.proofs.open.add_opened.Goals as goal

pub open_parts-requires-clause-bare : goal.open_parts-requires-clause-bare
open_parts-requires-clause-bare c =
    let st = c.stage-stage in
    stage_bare c.args.config.now c.args.world.now c.add.new.self c.reserve.new.self st.result.world.now c.in-Ok.parts.items c.reserve.new.self.event_room c.reserve.new.self.byte_room c.count-count.result st.result.vb
    c.count-count.ensures.sound c.requires.config c.in-Ok.ensures.count c.in-Ok-add.ensures.ok c.reserve.ensures.same st.ensures.world c.count-count.ensures.count st.ensures.vb

pub open_parts-requires-clause-home : goal.open_parts-requires-clause-home
open_parts-requires-clause-home c =
    let st = c.stage-stage in
    stage_home c.args.config.now c.args.world.now c.add.new.self c.reserve.new.self st.result.world.now c.in-Ok.parts.items c.reserve.new.self.event_room c.reserve.new.self.byte_room c.count-count.result st.result.vb
    c.count-count.ensures.sound c.requires.config c.in-Ok.ensures.count c.in-Ok-add.ensures.ok c.reserve.ensures.same st.ensures.world c.count-count.ensures.count st.ensures.vb

pub open_parts-requires-clause-free : goal.open_parts-requires-clause-free
open_parts-requires-clause-free c =
    let st = c.stage-stage in
    stage_free c.args.config.now c.args.world.now c.add.new.self c.reserve.new.self st.result.world.now c.in-Ok.parts.items c.reserve.new.self.event_room c.reserve.new.self.byte_room c.count-count.result st.result.vb
    c.count-count.ensures.sound c.requires.config c.in-Ok.ensures.count c.in-Ok-add.ensures.ok c.reserve.ensures.same st.ensures.world c.count-count.ensures.count st.ensures.vb
    st.result.caller

pub returns-clause-ok : goal.returns-clause-ok
returns-clause-ok c =
    let st = c.stage-stage in
    let o = c.open_parts in
    let added = stage_added c.args.config.now c.args.world.now c.add.new.self c.reserve.new.self st.result.world.now c.in-Ok.parts.items c.reserve.new.self.event_room c.reserve.new.self.byte_room c.count-count.result st.result.vb
    c.count-count.ensures.sound c.requires.config c.in-Ok.ensures.count c.in-Ok-add.ensures.ok c.reserve.ensures.same st.ensures.world c.count-count.ensures.count st.ensures.vb
    o.new.stage.world.now o.new.stage.vb o.ensures.stays.fixed o.ensures.home o.ensures.front c.requires.home in
    search rules
