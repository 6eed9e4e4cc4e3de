use Rattle.std.proofs.Common.{rules, ◌≡◌, ◌++◌, [], ◌∷◌}
use Rattle.ep_model.specs.Checkpoints.{but_item}
use Rattle.plain_tally.specs.Items.{items_data}
use Rattle.plain_tally.proofs.RoomLemmas.{world-put, world-distinct}
use Rattle.plain_tally.proofs.world.PlainWorld.put.Goals as goal

pub invariant_of-self-2 : goal.invariant_of-self-2
invariant_of-self-2 c =
    let dropped : items_data c.forget.new.items.items ≡ but_item c.args.item.key.items (items_data c.self.inside.documents.items) = search rules in
    let pushed : c.push_reserved.new.self.items ≡ c.forget.new.items.items ++ c.args.item ∷ [] = search rules in
    (c.self.invariant.0, world-distinct c.self.inside.documents.items c.forget.new.items.items c.push_reserved.new.self.items c.args.item c.self.invariant.1 dropped pushed)

pub returns-clause-ok : goal.returns-clause-ok
returns-clause-ok c =
    let w = c.self.inside in
    let dropped : items_data c.forget.new.items.items ≡ but_item c.args.item.key.items (items_data w.documents.items) = search rules in
    let pushed : c.push_reserved.new.self.items ≡ c.forget.new.items.items ++ c.args.item ∷ [] = search rules in
    world-put c.args.self.now w.eviction w.stripes w.fit w.state w.documents.items c.forget.new.items.items c.push_reserved.new.self.items w.high w.maxcas w.persisted c.args.item c.self.view_is dropped pushed
