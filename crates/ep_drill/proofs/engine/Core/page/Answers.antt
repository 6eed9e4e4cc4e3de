use Rattle.std.proofs.Common.{subst}
use Rattle.ep_drill.specs.Core.{core_data, Interleaves, GoesOn}
use Rattle.ep_drill.specs.declared.data.CoreData.{CoreData}
use Rattle.ep_drill.proofs.EngineLemmas.{rested_world}
use Rattle.ep_drill.proofs.SteppedLemmas.{paged_at}
use Rattle.ep_drill.proofs.engine.Core.page.Goals as goal

-- src/engine.rt
pub invariant_of-self : goal.invariant_of-self
invariant_of-self g c =
    let i : Interleaves (core_data c.self.inside.config c.self.inside.world c.self.inside.benches.items c.self.inside.callers.items) = c.self.invariant.0 in
    let m = rested_world c.self.inside.config c.self.inside.world c.page_at.new.world c.self.inside.benches.items c.self.inside.callers.items c.args.vb i c.page_at.ensures.worked c.page_at.ensures.sound in
    (m.0, c.self.invariant.1)

-- src/engine.rt
pub returns-clause-interleaves : goal.returns-clause-interleaves
returns-clause-interleaves g c =
    let i : Interleaves (core_data c.self.inside.config c.self.inside.world c.self.inside.benches.items c.self.inside.callers.items) = c.self.invariant.0 in
    let m = rested_world c.self.inside.config c.self.inside.world c.page_at.new.world c.self.inside.benches.items c.self.inside.callers.items c.args.vb i c.page_at.ensures.worked c.page_at.ensures.sound in
    m.0

-- src/engine.rt
pub returns-clause-goes_on : goal.returns-clause-goes_on
returns-clause-goes_on g c =
    let i : Interleaves (core_data c.self.inside.config c.self.inside.world c.self.inside.benches.items c.self.inside.callers.items) = c.self.invariant.0 in
    let m = rested_world c.self.inside.config c.self.inside.world c.page_at.new.world c.self.inside.benches.items c.self.inside.callers.items c.args.vb i c.page_at.ensures.worked c.page_at.ensures.sound in
    subst (λ (s : CoreData). GoesOn s (core_data c.self.inside.config c.page_at.new.world c.self.inside.benches.items c.self.inside.callers.items)) c.self.view_is m.1

pub returns-clause-paged : goal.returns-clause-paged
returns-clause-paged g c =
    paged_at c.args.self.now c.self.inside.config c.self.inside.world c.page_at.new.world c.self.inside.benches.items c.self.inside.callers.items c.args.vb c.args.stripe c.page_at.result c.self.view_is c.page_at.ensures.worked c.page_at.ensures.paged c.page_at.ensures.kept
