-- One frame more, or why there is none.
use Rattle.std.proofs.Common.{◌∙◌, ap, refl, false, true, arith}
use Rattle.mcbp_frame.specs.Feeder.{after_next}
use Rattle.ep_top.specs.declared.end.End.TheVariants as ends
use Rattle.ep_top.specs.Responder.{is_quit_served}
use Rattle.ep_top.specs.Stand.{stand}
use Rattle.ep_top.proofs.StandLemmas.{serves_nothing, serves_then, serves_first, serves_none, advances_writes, breaks_loss, breaks_memory_at, breaks_here, breaks_bad_magic, breaks_too_long, place_first}
use Rattle.ep_top.proofs.session.serve_next.Goals as goal

pub returns-in_default-clause-breaks : goal.returns-in_default-clause-breaks
returns-in_default-clause-breaks g c =
    let fault = c.make_room.ensures.failed c.in_default.is in
    let here = stand c.args.feeder.now.rest c.args.responder.now (g.W.Sink.held c.args.sink.now) (g.C.Clock.moment c.args.clock.now) false in
    breaks_loss here c.args.feeder.now.rest c.args.responder.now c.make_room.new.self (g.W.Sink.held c.args.sink.now) (g.W.Sink.held c.make_room.new.sink) (g.C.Clock.moment c.args.clock.now) c.args.feeder.now.at _ _ _ _ (serves_nothing here) c.make_room.ensures.kept fault.0 refl fault.1
    (c.make_room.ensures.offered c.in_default.is) (λ few. absurd (let many = c.make_room.ensures.many c.in_default.is in omega (arith, few, many)))

pub returns-in-Ok-GoesOn-clause-serves : goal.returns-in-Ok-GoesOn-clause-serves
returns-in-Ok-GoesOn-clause-serves g c =
    let here = stand c.args.feeder.now.rest c.args.responder.now (g.W.Sink.held c.args.sink.now) (g.C.Clock.moment c.args.clock.now) false in
    serves_then here _ _ (advances_writes c.args.feeder.now.rest c.args.responder.now c.make_room.new.self (g.W.Sink.held c.args.sink.now) (g.W.Sink.held c.make_room.new.sink) (g.C.Clock.moment c.args.clock.now) c.make_room.ensures.kept (c.make_room.ensures.done c.in-Done.is).0)
    (serves_first c.args.feeder.now c.next.follows.lender-at-none c.next.result c.in-Frame.frame c.make_room.new.self c.serve.new.self (g.W.Sink.held c.make_room.new.sink) (g.C.Clock.moment c.args.clock.now) (g.C.Clock.moment c.serve.new.clock) (is_quit_served c.in-Ok-GoesOn.field-0) false
    c.in-Frame.ensures.gives.0 c.in-Frame.ensures.gives.1 c.in-Frame.is c.next.follows.holds-at-none c.in-Ok-GoesOn.ensures.answered (ap is_quit_served c.in-Ok-GoesOn.field-0-is) (c.make_room.ensures.done c.in-Done.is).1)

pub returns-in-Ok-GoesOn-clause-place : goal.returns-in-Ok-GoesOn-clause-place
returns-in-Ok-GoesOn-clause-place g c = place_first c.args.feeder.now c.next.follows.lender-at-none c.next.result c.in-Frame.frame c.in-Frame.ensures.gives.0 c.in-Frame.is c.next.follows.holds-at-none

pub returns-in-Ok-Quits-clause-breaks : goal.returns-in-Ok-Quits-clause-breaks
returns-in-Ok-Quits-clause-breaks g c =
    let here = stand c.args.feeder.now.rest c.args.responder.now (g.W.Sink.held c.args.sink.now) (g.C.Clock.moment c.args.clock.now) false in
    breaks_here ends.Quit here (stand c.next.follows.lender-at-none.rest c.serve.new.self (g.W.Sink.held c.make_room.new.sink) (g.C.Clock.moment c.serve.new.clock) false) c.next.follows.lender-at-none.at _ _ _ (λ e. cc) (λ e. cc)
    (serves_then here _ _ (advances_writes c.args.feeder.now.rest c.args.responder.now c.make_room.new.self (g.W.Sink.held c.args.sink.now) (g.W.Sink.held c.make_room.new.sink) (g.C.Clock.moment c.args.clock.now) c.make_room.ensures.kept (c.make_room.ensures.done c.in-Done.is).0)
    (serves_first c.args.feeder.now c.next.follows.lender-at-none c.next.result c.in-Frame.frame c.make_room.new.self c.serve.new.self (g.W.Sink.held c.make_room.new.sink) (g.C.Clock.moment c.args.clock.now) (g.C.Clock.moment c.serve.new.clock) (is_quit_served c.in-Ok-Quits.field-0) true
    c.in-Frame.ensures.gives.0 c.in-Frame.ensures.gives.1 c.in-Frame.is c.next.follows.holds-at-none c.in-Ok-Quits.ensures.answered (ap is_quit_served c.in-Ok-Quits.field-0-is) (c.make_room.ensures.done c.in-Done.is).1)) (c.make_room.ensures.quiet c.in-Done.is) tt

pub returns-in-Ok-Quits-clause-place : goal.returns-in-Ok-Quits-clause-place
returns-in-Ok-Quits-clause-place g c = place_first c.args.feeder.now c.next.follows.lender-at-none c.next.result c.in-Frame.frame c.in-Frame.ensures.gives.0 c.in-Frame.is c.next.follows.holds-at-none

pub returns-in-Err-clause-breaks : goal.returns-in-Err-clause-breaks
returns-in-Err-clause-breaks g c =
    breaks_memory_at c.args.feeder.now.rest c.next.follows.lender-at-none.rest c.args.responder.now c.serve.new.self c.make_room.new.self.conn.out.bytes (g.W.Sink.held c.args.sink.now) (g.W.Sink.held c.make_room.new.sink) (g.C.Clock.moment c.args.clock.now) (g.C.Clock.moment c.serve.new.clock) _ _ _ _ (c.make_room.ensures.quiet c.in-Done.is) c.in-Frame.ensures.gives.0 (c.make_room.ensures.done c.in-Done.is).1
    (c.make_room.ensures.done c.in-Done.is).0 (c.in-Err.ensures.err.0 ∙ c.make_room.ensures.kept.history) c.in-Err.ensures.err.1 (c.in-Err.ensures.err.2 ∙ c.make_room.ensures.kept.features) c.serve.ensures.asked

pub returns-in-Err-clause-place : goal.returns-in-Err-clause-place
returns-in-Err-clause-place g c = place_first c.args.feeder.now c.next.follows.lender-at-none c.next.result c.in-Frame.frame c.in-Frame.ensures.gives.0 c.in-Frame.is c.next.follows.holds-at-none

pub returns-in-Need-clause-serves : goal.returns-in-Need-clause-serves
returns-in-Need-clause-serves g c =
    serves_none c.args.feeder.now c.next.follows.lender-at-none c.next.result c.args.responder.now c.make_room.new.self (g.W.Sink.held c.args.sink.now) (g.W.Sink.held c.make_room.new.sink) (g.C.Clock.moment c.args.clock.now)
    c.next.follows.holds-at-none (ap (after_next c.args.feeder.now) c.in-Need.is) c.make_room.ensures.kept.history c.make_room.ensures.kept.features (c.make_room.ensures.done c.in-Done.is).0

pub returns-in-BadMagic-clause-breaks : goal.returns-in-BadMagic-clause-breaks
returns-in-BadMagic-clause-breaks g c =
    let same = ap (after_next c.args.feeder.now) c.in-BadMagic.is in
    breaks_bad_magic c.args.feeder.now c.next.follows.lender-at-none _ _ _ _ _ _ (c.make_room.ensures.quiet c.in-Done.is)
    (serves_none c.args.feeder.now c.next.follows.lender-at-none c.next.result c.args.responder.now c.make_room.new.self (g.W.Sink.held c.args.sink.now) (g.W.Sink.held c.make_room.new.sink) (g.C.Clock.moment c.args.clock.now)
    c.next.follows.holds-at-none same c.make_room.ensures.kept.history c.make_room.ensures.kept.features (c.make_room.ensures.done c.in-Done.is).0)
    refl refl (c.next.follows.holds-at-none ∙ same) c.in-BadMagic.ensures.gives.0 c.in-BadMagic.ensures.gives.1

pub returns-in-TooLong-clause-breaks : goal.returns-in-TooLong-clause-breaks
returns-in-TooLong-clause-breaks g c =
    let same = ap (after_next c.args.feeder.now) c.in-TooLong.is in
    breaks_too_long c.args.feeder.now c.next.follows.lender-at-none _ _ _ _ _ _ (c.make_room.ensures.quiet c.in-Done.is)
    (serves_none c.args.feeder.now c.next.follows.lender-at-none c.next.result c.args.responder.now c.make_room.new.self (g.W.Sink.held c.args.sink.now) (g.W.Sink.held c.make_room.new.sink) (g.C.Clock.moment c.args.clock.now)
    c.next.follows.holds-at-none same c.make_room.ensures.kept.history c.make_room.ensures.kept.features (c.make_room.ensures.done c.in-Done.is).0)
    refl refl (c.next.follows.holds-at-none ∙ same) c.in-TooLong.ensures.gives.0 c.in-TooLong.ensures.gives.1
