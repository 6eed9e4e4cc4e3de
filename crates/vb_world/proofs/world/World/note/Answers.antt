use Rattle.std.proofs.Common.{◌≤◌, ap, arith}
use Rattle.ep_model.specs.History.{event_data}
use Rattle.hold_stage.specs.Touches.{bytes_of}
use Rattle.vb_world.specs.declared.data.WorldData.{WorldData}
use Rattle.vb_world.specs.EventLog.{event_room, byte_room}
use Rattle.vb_world.specs.Buckets.{world_data}
use Rattle.vb_world.proofs.TurnLemmas.{noted_so}
use Rattle.vb_world.proofs.world.World.note.Goals as goal

pub invariant_of-self : goal.invariant_of-self
invariant_of-self g c =
    let i = c.self.inside in
    let w : WorldData g.row.P.Denot = world_data i.config i.log i.buckets.items i.losses in
    let events : 1 ≤ event_room i.log = omega (arith, ap (λ (d : WorldData g.row.P.Denot). d.event_room) c.self.view_is, c.requires.event) in
    let bytes : bytes_of (event_data c.args.event.now) ≤ byte_room i.log = omega (arith, ap (λ (d : WorldData g.row.P.Denot). d.byte_room) c.self.view_is, c.requires.bytes) in
    (c.note-noted.ensures.whole, noted_so g.P.Stands.stands w c.args.self.now c.args.vb (event_data c.args.event.now) _ _ _ c.note-noted.result g.P.Stands.keeps c.self.invariant.1 c.self.view_is c.requires.vb c.requires.away c.requires.may (c.note-noted.ensures.room events bytes) c.note-noted.ensures.ok)

pub returns-clause-sound : goal.returns-clause-sound
returns-clause-sound g c =
    let i = c.self.inside in
    let w : WorldData g.row.P.Denot = world_data i.config i.log i.buckets.items i.losses in
    let events : 1 ≤ event_room i.log = omega (arith, ap (λ (d : WorldData g.row.P.Denot). d.event_room) c.self.view_is, c.requires.event) in
    let bytes : bytes_of (event_data c.args.event.now) ≤ byte_room i.log = omega (arith, ap (λ (d : WorldData g.row.P.Denot). d.byte_room) c.self.view_is, c.requires.bytes) in
    noted_so g.P.Stands.stands w c.args.self.now c.args.vb (event_data c.args.event.now) _ _ _ c.note-noted.result g.P.Stands.keeps c.self.invariant.1 c.self.view_is c.requires.vb c.requires.away c.requires.may (c.note-noted.ensures.room events bytes) c.note-noted.ensures.ok
