use Rattle.std.proofs.Common.{ap, ◌∙◌, arith}
use Rattle.vb_front.specs.Reads.{Read}
use Rattle.vb_front.proofs.ShowLemmas.{at_ejected, text_short}
use Rattle.hash_stripe.specs.Nodes.{node_at}
use Rattle.vb_front.proofs.get.read_key.Goals as goal

pub read_here-requires-clause-room : goal.read_here-requires-clause-room
read_here-requires-clause-room c =
    let short = text_short c.args.part.now.table.index c.args.part.now.table.stripes c.args.part.now.table.eviction c.args.part.now.table.mark (node_at c.args.part.now.table.slots c.args.key.now) c.find.ensures.sound in
    let room = c.requires.room in
    omega arith

pub read_here-requires-clause-short : goal.read_here-requires-clause-short
read_here-requires-clause-short c =
    text_short c.args.part.now.table.index c.args.part.now.table.stripes c.args.part.now.table.eviction c.args.part.now.table.mark (node_at c.args.part.now.table.slots c.args.key.now) c.find.ensures.sound

pub returns-in-Ejected-clause-step : goal.returns-in-Ejected-clause-step
returns-in-Ejected-clause-step c = c.read_away.ensures.step ∙ ap (λ (r : Read). r.step) (at_ejected c.args.part.now c.args.prior c.args.key.now c.args.now c.in-Ejected.field-0 c.in-Ejected.ensures.shows)

pub returns-in-Ejected-clause-part : goal.returns-in-Ejected-clause-part
returns-in-Ejected-clause-part c = c.read_away.ensures.part ∙ ap (λ (r : Read). r.part) (at_ejected c.args.part.now c.args.prior c.args.key.now c.args.now c.in-Ejected.field-0 c.in-Ejected.ensures.shows)

pub returns-in-Ejected-clause-value : goal.returns-in-Ejected-clause-value
returns-in-Ejected-clause-value c = c.requires.empty ∙ c.read_away.ensures.value ∙ ap (λ (r : Read). r.value) (at_ejected c.args.part.now c.args.prior c.args.key.now c.args.now c.in-Ejected.field-0 c.in-Ejected.ensures.shows)
