use Rattle.std.proofs.Common.{rules}
use Rattle.std.proofs.lemmas.Fn.{filter_same}
use Rattle.flat_parts.proofs.QueueLemmas.{persisted-kept}
use Rattle.flat_parts.proofs.queue.FlatQueue.set_persisted.Goals as goal

pub returns : goal.returns
returns c =
    persisted-kept c.args.self.now c.self.inside.items.items c.retain.new.self.items c.self.inside.high c.self.inside.maxcas c.self.inside.persisted c.self.inside.state c.self.inside.opened c.self.inside.uuid c.args.number c.self.view_is
    (filter_same _ _ _ (λ x b f' k. search rules) _ _ c.retain.ensures.filtered)
