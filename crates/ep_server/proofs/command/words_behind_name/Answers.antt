-- The words are those that the iterator yields behind the first, since it has as many as its items say.
use Rattle.std.proofs.Common.{rules, ap, ◌∙◌}
use Rattle.std.specs.Vec.Iter.{into_iter_items, into_iter_len}
use Rattle.std.proofs.lemmas.Iterator.{items_from_collect}
use Rattle.std.proofs.lemmas.Iterator.Adapters.{YieldsList-from_skip, YieldsList-from_vec}
use Rattle.ep_server.proofs.command.words_behind_name.Goals as goal

pub returns-clause-words : goal.returns-clause-words
returns-clause-words c =
    let args = c.args.args in
    let all = YieldsList-from_vec (into_iter_items args)
    (ap into_iter_items c.skip.ensures.source)
    (ap into_iter_len c.skip.ensures.source ∙ args.rest.ok.0) in
    let collected =
    items_from_collect c.collect.result c.collect.ensures.ran (YieldsList-from_skip _ all c.skip.ensures.count)
    in search (rules, collected)
