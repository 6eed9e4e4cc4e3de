use Rattle.std.proofs.Common.{map, ap, sym, ◌∙◌, arith}
use Rattle.std.specs.Vec.Iter.{into_iter_items, into_iter_len}
use Rattle.std.specs.Iterator.Adapters.{zip_first, zip_second}
use Rattle.std.proofs.lemmas.Iterator.{YieldsList-from_zip}
use Rattle.std.proofs.lemmas.Iterator.Adapters.{YieldsList-from_vec}
use Rattle.std.proofs.lemmas.Iterator.Consumers.{YieldsList-turn, YieldsList-end}
use Rattle.std.proofs.lemmas.Slice.Zip.{length-zip}
use Rattle.ep_drill.proofs.BenchesLemmas.{bench_from, fresh_at, same_map, zip_fresh}
use Rattle.ep_drill.proofs.start.benches_of.Goals as goal

pub new-requires : goal.new-requires
new-requires g c =
    let i = c.into_iter-keeper-iterator.ensures.into_iter_gives in
    let a = c.zip-keeper-items.ensures.first in
    let b = c.zip-keeper-items.ensures.second in
    let ks = YieldsList-from_vec c.args.keepers.items (ap (λ z. into_iter_items (zip_first z)) i ∙ ap into_iter_items a ∙ c.into_iter.ensures.rest) (ap (λ z. into_iter_len (zip_first z)) i ∙ ap into_iter_len a ∙ c.into_iter.ensures.len ∙ c.args.keepers.ok.0) in
    let vs = YieldsList-from_vec c.args.reads.items (ap (λ z. into_iter_items (zip_second z)) i ∙ b.0) (ap (λ z. into_iter_len (zip_second z)) i ∙ b.1 ∙ c.args.reads.ok.0) in
    let all = YieldsList-from_zip ks vs in
    let t = YieldsList-turn all c.loop-keeper.yielded c.loop-keeper.keeper-iterator c.loop-keeper.yielded_by c.next.result c.next.new.self (c.in-Some.keeper, c.in-Some.unread) c.in-Some.is c.next.ensures.steps in
    record { sure = fresh_at g.K.Keeper.seen c.args.keepers.items c.args.reads.items _ (c.in-Some.keeper, c.in-Some.unread) t.0 t.1 c.requires }

pub push_reserved-requires : goal.push_reserved-requires
push_reserved-requires g c =
    let i = c.into_iter-keeper-iterator.ensures.into_iter_gives in
    let a = c.zip-keeper-items.ensures.first in
    let b = c.zip-keeper-items.ensures.second in
    let ks = YieldsList-from_vec c.args.keepers.items (ap (λ z. into_iter_items (zip_first z)) i ∙ ap into_iter_items a ∙ c.into_iter.ensures.rest) (ap (λ z. into_iter_len (zip_first z)) i ∙ ap into_iter_len a ∙ c.into_iter.ensures.len ∙ c.args.keepers.ok.0) in
    let vs = YieldsList-from_vec c.args.reads.items (ap (λ z. into_iter_items (zip_second z)) i ∙ b.0) (ap (λ z. into_iter_len (zip_second z)) i ∙ b.1 ∙ c.args.reads.ok.0) in
    let all = YieldsList-from_zip ks vs in
    let t = YieldsList-turn all c.loop-keeper.yielded c.loop-keeper.keeper-iterator c.loop-keeper.yielded_by c.next.result c.next.new.self (c.in-Some.keeper, c.in-Some.unread) c.in-Some.is c.next.ensures.steps in
    let n = length-zip c.args.keepers.items c.args.reads.items in
    let count = c.loop-keeper.invariant.count in
    let room = c.loop-keeper.invariant.room in
    omega (arith, t.0)

pub returns-clause-ok : goal.returns-clause-ok
returns-clause-ok g c = λ stripes is.
    let i = c.into_iter-keeper-iterator.ensures.into_iter_gives in
    let a = c.zip-keeper-items.ensures.first in
    let b = c.zip-keeper-items.ensures.second in
    let ks = YieldsList-from_vec c.args.keepers.items (ap (λ z. into_iter_items (zip_first z)) i ∙ ap into_iter_items a ∙ c.into_iter.ensures.rest) (ap (λ z. into_iter_len (zip_first z)) i ∙ ap into_iter_len a ∙ c.into_iter.ensures.len ∙ c.args.keepers.ok.0) in
    let vs = YieldsList-from_vec c.args.reads.items (ap (λ z. into_iter_items (zip_second z)) i ∙ b.0) (ap (λ z. into_iter_len (zip_second z)) i ∙ b.1 ∙ c.args.reads.ok.0) in
    let all = YieldsList-from_zip ks vs in
    let t = YieldsList-end all c.loop-keeper.yielded c.loop-keeper.keeper-iterator c.loop-keeper.yielded_by c.next.result c.next.new.self c.in-None.is c.next.ensures.steps in
    c.loop-keeper.invariant.made ∙ ap (λ l. map (bench_from g.K.Keeper.seen) l) (sym (same_map c.loop-keeper.yielded) ∙ t.0) ∙ zip_fresh g.K.Keeper.seen stripes c.args.keepers.items c.args.reads.items is
