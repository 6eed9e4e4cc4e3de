use Rattle.std.proofs.Common.{rules}
use Rattle.stored_value.proofs.slots.Slots.new.Goals as goal

pub loop-init : goal.loop-init
loop-init c = search rules
