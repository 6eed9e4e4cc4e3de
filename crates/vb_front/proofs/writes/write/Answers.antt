use Rattle.std.proofs.Common.{rules}
use Rattle.ep_model.specs.History.{call_data}
use Rattle.vb_front.specs.Priors.{key_in}
use Rattle.vb_front.specs.Writes.{Leaves, write_step}
use Rattle.vb_front.proofs.WriteLemmas.{within_key, write_is_legal}
use Rattle.vb_front.proofs.RoomLemmas.{write_has_room}
use Rattle.vb_front.proofs.WriteExactLemmas.{write_is_exact}
use Rattle.vb_front.proofs.writes.write.Goals as goal

pub returns-then-not-is_opened-clause-legal : goal.returns-then-not-is_opened-clause-legal
returns-then-not-is_opened-clause-legal c =
    let call = call_data c.args.call.now in
    let left : Leaves c.args.part.now c.args.queue.now (write_step c.args.part.now c.args.queue.now c.args.prior call (key_in call) c.args.now) c.refuse.new.part c.args.queue.now = search rules in
    write_is_legal c.args.part.now c.args.queue.now call (key_in call) c.args.now c.args.prior c.refuse.new.part c.args.queue.now c.requires.keyed (within_key call (key_in call) c.requires.keyed c.requires.within) c.free-free.ensures.sound c.requires.home left

pub returns-in-Some-clause-legal : goal.returns-in-Some-clause-legal
returns-in-Some-clause-legal c =
    let call = call_data c.args.call.now in
    let left : Leaves c.args.part.now c.args.queue.now (write_step c.args.part.now c.args.queue.now c.args.prior call (key_in call) c.args.now) c.answer.new.part c.args.queue.now = search rules in
    write_is_legal c.args.part.now c.args.queue.now call (key_in call) c.args.now c.args.prior c.answer.new.part c.args.queue.now c.requires.keyed (within_key call (key_in call) c.requires.keyed c.requires.within) c.free-free.ensures.sound c.requires.home left

pub returns-clause-legal : goal.returns-clause-legal
returns-clause-legal c =
    let call = call_data c.args.call.now in
    let left : Leaves c.args.part.now c.args.queue.now (write_step c.args.part.now c.args.queue.now c.args.prior call (key_in call) c.args.now) c.write_key.new.part c.write_key.new.queue = search rules in
    write_is_legal c.args.part.now c.args.queue.now call (key_in call) c.args.now c.args.prior c.write_key.new.part c.write_key.new.queue c.requires.keyed (within_key call (key_in call) c.requires.keyed c.requires.within) c.free-free.ensures.sound c.requires.home left

pub returns-then-not-is_opened-clause-fits : goal.returns-then-not-is_opened-clause-fits
returns-then-not-is_opened-clause-fits c =
    let call = call_data c.args.call.now in
    write_has_room c.args.part.now c.args.queue.now call (key_in call) c.args.now c.args.prior c.requires.keyed (within_key call (key_in call) c.requires.keyed c.requires.within) c.free-free.ensures.sound c.requires.home

pub returns-in-Some-clause-fits : goal.returns-in-Some-clause-fits
returns-in-Some-clause-fits c =
    let call = call_data c.args.call.now in
    write_has_room c.args.part.now c.args.queue.now call (key_in call) c.args.now c.args.prior c.requires.keyed (within_key call (key_in call) c.requires.keyed c.requires.within) c.free-free.ensures.sound c.requires.home

pub returns-clause-fits : goal.returns-clause-fits
returns-clause-fits c =
    let call = call_data c.args.call.now in
    write_has_room c.args.part.now c.args.queue.now call (key_in call) c.args.now c.args.prior c.requires.keyed (within_key call (key_in call) c.requires.keyed c.requires.within) c.free-free.ensures.sound c.requires.home

pub returns-then-not-is_opened-clause-exact : goal.returns-then-not-is_opened-clause-exact
returns-then-not-is_opened-clause-exact c =
    let call = call_data c.args.call.now in
    write_is_exact c.args.part.now c.args.queue.now call (key_in call) c.args.now c.requires.keyed c.args.prior

pub returns-in-Some-clause-exact : goal.returns-in-Some-clause-exact
returns-in-Some-clause-exact c =
    let call = call_data c.args.call.now in
    write_is_exact c.args.part.now c.args.queue.now call (key_in call) c.args.now c.requires.keyed c.args.prior

pub returns-clause-exact : goal.returns-clause-exact
returns-clause-exact c =
    let call = call_data c.args.call.now in
    write_is_exact c.args.part.now c.args.queue.now call (key_in call) c.args.now c.requires.keyed c.args.prior
