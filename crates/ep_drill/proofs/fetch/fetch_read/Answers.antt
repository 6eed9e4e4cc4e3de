use Rattle.std.proofs.Common.{ℕ, List, refl, subst}
use Rattle.std.specs.Prelude.{Option, Vec}
use Rattle.std.specs.declared.alloc.Global.{Global}
use Rattle.flat_parts.specs.Nodes.{first_waiting}
use Rattle.ep_drill.specs.Fetches.{found_data, IsOldest, IsFoundIn}
use Rattle.ep_drill.proofs.FetchLemmas.{read_at}
use Rattle.ep_drill.proofs.fetch.fetch_read.Goals as goal

pub returns-in-Ok-Some-clause-read : goal.returns-in-Ok-Some-clause-read
returns-in-Ok-Some-clause-read g c =
    let t = c.take_stripe-part in
    let found = c.read_found-found in
    let r = c.requires in (
      read_at (g.S.Stage.front c.args.stage.now) (g.S.Stage.front t.new.stage) c.args.stripe t.result c.in-Ok-Some.number c.in-Ok-Some.key c.in-Ok-Some.room c.args.desk.now found.new.desk
          (found_data found.result) t.ensures.front t.ensures.legal r.eviction t.ensures.stands r.sure r.desk
          (subst (λ (o : Option (ℕ × Vec ℕ Global × Vec ℕ Global)). IsOldest (first_waiting t.result.places) o) c.in-Ok-Some.field-0-is c.in-Ok-Some.ensures.ok)
          (λ content told. subst (λ (l : List ℕ). IsFoundIn content l (found_data found.result)) c.deref.ensures.value (found.ensures.found content told))
          found.ensures.reads,
      refl,
      found.ensures.reads,
      found.ensures.memory,
    )
