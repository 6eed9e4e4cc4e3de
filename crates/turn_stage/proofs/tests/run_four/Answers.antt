use Rattle.std.proofs.Common.{rules, ap, ◌∙◌}
use Rattle.turn_stage.specs.Plays.{without_number, with_number}
use Rattle.turn_stage.specs.Passes.{view_of, Joined}
use Rattle.turn_stage.specs.Made.{made, MadeCalls}
use Rattle.turn_stage.proofs.MadeLemmas.{four_made}
use Rattle.turn_stage.proofs.tests.run_four.Goals as goal

pub returns-clause-joined : goal.returns-clause-joined
returns-clause-joined g c =
    let turns = c.args.turns.now in
    let f = view_of c.args.first in
    let a = c.split-fourth.new.pass in
    let ran = c.join-first.result in
    let two = c.split-second.ensures.pass in
    let three = c.split-third.ensures.pass ∙ ap without_number two in
    let first : MadeCalls turns a ran.0.0.0 (made (view_of a).caller 0 ran.0.0.1) = search rules in
    let second : MadeCalls turns c.split-second.result ran.0.1.0 (made (view_of c.split-second.result).caller 1 ran.0.1.1) = search rules in
    let third : MadeCalls turns c.split-third.result ran.1.0.0 (made (view_of c.split-third.result).caller 2 ran.1.0.1) = search rules in
    let fourth : MadeCalls turns c.split-fourth.result ran.1.1.0 (made (view_of c.split-fourth.result).caller 3 ran.1.1.1) = search rules in
    let one : Joined (view_of ran.0.0.0) (view_of ran.0.1.0) (view_of c.join.new.pass) = search rules in
    let next : Joined (view_of c.join.new.pass) (view_of ran.1.0.0) (view_of c.join-2.new.pass) = search rules in
    let last : Joined (view_of c.join-2.new.pass) (view_of ran.1.1.0) (view_of c.join-3.new.pass) = search rules in
    four_made turns _ _ f a c.split-second.result c.split-third.result c.split-fourth.result ran.0.0.0 ran.0.1.0 ran.1.0.0 ran.1.1.0 (view_of c.join.new.pass) (view_of c.join-2.new.pass) (view_of c.join-3.new.pass)
    ran.0.0.1 ran.0.1.1 ran.1.0.1 ran.1.1.1 c.requires.first (c.split-fourth.ensures.pass ∙ ap without_number three) c.split-second.ensures.new (c.split-third.ensures.new ∙ ap with_number two)
    (c.split-fourth.ensures.new ∙ ap with_number three) first second third fourth one next last
