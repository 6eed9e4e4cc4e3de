use Rattle.std.proofs.Common.{refl}
use Rattle.std.specs.Prelude.{Some}
use Rattle.flat_parts.proofs.NodeLemmas.{restore-place, restore-missing}
use Rattle.flat_parts.proofs.nodes.restore.Goals as goal

pub returns-in-Some : goal.returns-in-Some
returns-in-Some c = λ node found.
    restore-place c.args.nodes.now.items c.deref.result.now c.args.key.now c.position_of.result c.in-Some.place c.index_mut-node.result.now _ (record { key = c.args.key.now; meta = c.args.meta; value = Some c.args.value.items }) c.deref.ensures.value c.position_of.ensures.place c.in-Some.is c.index_mut-node.ensures.value refl refl

pub returns-in_default : goal.returns-in_default
returns-in_default c = λ node found.
    restore-missing c.args.nodes.now.items c.deref.result.now c.args.nodes.now.items c.args.key.now c.position_of.result node _ c.deref.ensures.value c.position_of.ensures.place c.in_default.is found
