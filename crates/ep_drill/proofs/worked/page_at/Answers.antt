use Rattle.std.proofs.Common.{rules, None}
use Rattle.ep_drill.specs.Core.{Moved}
use Rattle.ep_drill.proofs.WorkedLemmas.{moved_still}
use Rattle.ep_drill.proofs.worked.page_at.Goals as goal

-- src/worked.rt:162:1
pub returns-clause-worked : goal.returns-clause-worked
returns-clause-worked c =
    let m : Moved c.args.config.now c.args.vb None c.args.world.now c.page_once-paged.new.stage.world.now =
    moved_still c.args.config.now c.args.world.now c.stage-stage.result.world.now c.page_once-paged.new.stage.world.now c.args.vb c.stage-stage.result.vb c.page_once-paged.new.stage.vb c.requires.ready c.requires.vb c.stage-stage.ensures.world
    c.stage-stage.ensures.vb c.page_once-paged.ensures.stays.fixed c.page_once-paged.ensures.home c.page_once-paged.ensures.front in
    search rules
