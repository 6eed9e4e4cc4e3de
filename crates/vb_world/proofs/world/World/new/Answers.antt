use Rattle.std.proofs.Common.{map, ap}
use Rattle.vb_world.specs.EventLog.{pairs_in}
use Rattle.vb_world.specs.Buckets.{bucket_data}
use Rattle.vb_world.proofs.TurnLemmas.{made}
use Rattle.vb_world.proofs.world.World.new.Goals as goal

pub invariant_of-result : goal.invariant_of-result
invariant_of-result g c =
    (rw c.new.ensures.items tt, made g.P.Stands.stands c.args.config.now _ _ 0 _ _ c.requires (ap (pairs_in c.new-2.result.items) c.new.ensures.items) (ap (map bucket_data) c.in_ok-buckets.ensures.items))

pub returns-clause-sound : goal.returns-clause-sound
returns-clause-sound g c =
    made g.P.Stands.stands c.args.config.now _ _ 0 _ _ c.requires (ap (pairs_in c.new-2.result.items) c.new.ensures.items) (ap (map bucket_data) c.in_ok-buckets.ensures.items)
