use Rattle.ep_drill.proofs.OpenLemmas.{made_items, made_stand, made_count}
use Rattle.ep_drill.proofs.open.bare_parts.Goals as goal

pub returns-clause-items : goal.returns-clause-items
returns-clause-items c =
    made_items c.args.stripes c.in_ok-parts.parts.items c.push.new.self.items c.push-2.new.self.items c.new.result c.in_ok-parts.ensures c.new.ensures c.in_ok-push.ensures.items c.in_ok-push-2.ensures.items

pub returns-clause-count : goal.returns-clause-count
returns-clause-count c = made_count c.args.stripes c.push-2.new.self.items (returns-clause-items c)

pub returns-clause-stand : goal.returns-clause-stand
returns-clause-stand c = made_stand c.args.stripes c.push-2.new.self.items (returns-clause-items c)
