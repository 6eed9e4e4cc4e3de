use Rattle.std.proofs.Common.{◌∙◌}
use Rattle.ckpt_items.proofs.CallLemmas.{free_at, held_at, fit_at, rising_at}
use Rattle.ckpt_items.proofs.items.Items.free.Goals as goal

pub returns-clause-free : goal.returns-clause-free
returns-clause-free c = c.free.ensures.free ∙ free_at c.self.inside.pool c.self.inside.items.items c.self.inside.closed c.args.self.now c.self.view_is c.self.invariant.owns

pub returns-clause-held : goal.returns-clause-held
returns-clause-held c = held_at c.self.inside.pool c.self.inside.items.items c.self.inside.closed c.args.self.now c.self.view_is c.self.invariant.owns

pub returns-clause-fit : goal.returns-clause-fit
returns-clause-fit c = fit_at c.self.inside.pool c.self.inside.items.items c.self.inside.closed c.args.self.now c.self.view_is c.self.invariant.fit

pub returns-clause-rising : goal.returns-clause-rising
returns-clause-rising c = rising_at c.self.inside.pool c.self.inside.items.items c.self.inside.closed c.args.self.now c.self.view_is c.self.invariant.rising
