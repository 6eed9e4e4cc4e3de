use Rattle.std.proofs.Common.{◌<◌, ◌∙◌, arith, rules}
use Rattle.ckpt_items.proofs.CallLemmas.{room_at, count_at}
use Rattle.ckpt_items.proofs.items.Items.count.Goals as goal

pub overflow_cast-result : goal.overflow_cast-result
overflow_cast-result c =
    let room = room_at c.self.inside.pool c.self.inside.items.items c.self.inside.closed _ c.self.invariant in
    let few : c.len.result < 4294967296 = omega (arith, room.0, c.self.invariant.few, c.self.inside.items.ok.0) in
    search rules

pub returns : goal.returns
returns c = c.len.ensures ∙ c.self.inside.items.ok.0 ∙ count_at c.self.inside.pool c.self.inside.items.items c.self.inside.closed c.args.self.now c.self.view_is
