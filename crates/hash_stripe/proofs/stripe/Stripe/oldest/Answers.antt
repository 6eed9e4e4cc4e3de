use Rattle.std.proofs.Common.{ℕ, ◌≤◌, ◌++◌, List, length, ◌∙◌, ap, sym, subst}
use Rattle.std.specs.Prelude.{Some, None}
use Rattle.hash_stripe.proofs.CallLemmas.{oldest-is, nothing-more}
use Rattle.hash_stripe.proofs.stripe.Stripe.oldest.Goals as goal

pub key_to-requires-clause-room : goal.key_to-requires-clause-room
key_to-requires-clause-room c =
    subst (λ (k : List ℕ). length k ≤ c.args.out.now.spare) (sym (oldest-is (record { index = c.self.inside.index; stripes = c.self.inside.stripes; eviction = c.self.inside.eviction; slots = c.self.inside.table; mark = c.self.inside.mark; state = c.self.inside.state; opened = c.self.inside.opened }) c.args.self.now c.victim.result (Some c.in-Some.slot) c.self.view_is c.victim.ensures.slot c.in-Some.is).named) c.requires

pub returns-in-None-clause-some : goal.returns-in-None-clause-some
returns-in-None-clause-some c = (oldest-is (record { index = c.self.inside.index; stripes = c.self.inside.stripes; eviction = c.self.inside.eviction; slots = c.self.inside.table; mark = c.self.inside.mark; state = c.self.inside.state; opened = c.self.inside.opened }) c.args.self.now c.victim.result None c.self.view_is c.victim.ensures.slot c.in-None.is).there

pub returns-in-None-clause-key : goal.returns-in-None-clause-key
returns-in-None-clause-key c = nothing-more c.args.out.now.bytes _ (oldest-is (record { index = c.self.inside.index; stripes = c.self.inside.stripes; eviction = c.self.inside.eviction; slots = c.self.inside.table; mark = c.self.inside.mark; state = c.self.inside.state; opened = c.self.inside.opened }) c.args.self.now c.victim.result None c.self.view_is c.victim.ensures.slot c.in-None.is).named

pub returns-in-Some-clause-some : goal.returns-in-Some-clause-some
returns-in-Some-clause-some c = (oldest-is (record { index = c.self.inside.index; stripes = c.self.inside.stripes; eviction = c.self.inside.eviction; slots = c.self.inside.table; mark = c.self.inside.mark; state = c.self.inside.state; opened = c.self.inside.opened }) c.args.self.now c.victim.result (Some c.in-Some.slot) c.self.view_is c.victim.ensures.slot c.in-Some.is).there

pub returns-in-Some-clause-key : goal.returns-in-Some-clause-key
returns-in-Some-clause-key c = c.key_to.ensures.bytes ∙ ap (λ (k : List ℕ). c.args.out.now.bytes ++ k) (oldest-is (record { index = c.self.inside.index; stripes = c.self.inside.stripes; eviction = c.self.inside.eviction; slots = c.self.inside.table; mark = c.self.inside.mark; state = c.self.inside.state; opened = c.self.inside.opened }) c.args.self.now c.victim.result (Some c.in-Some.slot) c.self.view_is c.victim.ensures.slot c.in-Some.is).named
