use Rattle.std.proofs.Common.{rules, ◌≡◌}
use Rattle.std.specs.List.{find}
use Rattle.std.specs.Option.{option_copied}
use Rattle.std.specs.Str.{bytes_eq}
use Rattle.plain_tally.specs.declared.item.PlainItem.{PlainItem}
use Rattle.plain_tally.proofs.RoomLemmas.{world-get}
use Rattle.plain_tally.proofs.world.PlainWorld.get.Goals as goal

pub returns : goal.returns
returns c =
    let w = c.self.inside in
    let found : option_copied c.item_of.result ≡ find (λ (item : PlainItem). bytes_eq item.key.items c.args.key.now) w.documents.items = search rules in
    world-get c.args.self.now w.eviction w.stripes w.fit w.state w.documents.items w.high w.maxcas w.persisted c.args.key.now (option_copied c.item_of.result) c.self.view_is found
