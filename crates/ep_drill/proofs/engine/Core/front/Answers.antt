use Rattle.std.proofs.Common.{rules, ◌≡◌, ◌<◌, length, slice_get, slice_set, Some, refl, sym, subst}
use Rattle.std.specs.Prelude.{Result, IfOk, OnErr}
use Rattle.ep_model.specs.declared.memory.NoMemory.{NoMemory}
use Rattle.ep_drill.specs.declared.choice.Answer.{Answer}
use Rattle.ep_drill.specs.Core.{core_data}
use Rattle.ep_drill.specs.Stepped.{IsFronted, Spares, TurnTakes}
use Rattle.std.specs.Vec.{vec_len}
use Rattle.std.proofs.lemmas.Option.{slice_get_read}
use Rattle.ep_drill.proofs.TurnLemmas.{turned_at, fronted_at, front_spared, caller_of, caller_back, no_caller}
use Rattle.ep_drill.proofs.EngineLemmas.{stays_on}
use Rattle.ep_drill.specs.Stepped.IsIdle.{NoCaller}
use Rattle.ep_drill.proofs.engine.Core.front.Goals as goal

pub try_next-tried-requires-clause-stands : goal.try_next-tried-requires-clause-stands
try_next-tried-requires-clause-stands g c =
    let o = c.self.inside in
    let count : vec_len o.callers ≡ length o.callers.items = search rules in
    let within : c.from.result < vec_len o.callers = c.in-Some.ensures.variant.0 refl in
    let at : slice_get o.callers.items c.from.result ≡ Some c.in-Some.caller.now = slice_get_read o.callers.items (vec_len o.callers) c.from.result c.in-Some.caller.now count within c.in-Some.ensures.value in
    (caller_of o.config o.world o.benches.items o.callers.items c.from.result c.from-2.result c.args.number c.in-Some.caller.now c.from.ensures c.from-2.ensures c.self.invariant.0 at).0

pub try_next-tried-requires-clause-loaded : goal.try_next-tried-requires-clause-loaded
try_next-tried-requires-clause-loaded g c =
    let o = c.self.inside in
    let count : vec_len o.callers ≡ length o.callers.items = search rules in
    let within : c.from.result < vec_len o.callers = c.in-Some.ensures.variant.0 refl in
    let at : slice_get o.callers.items c.from.result ≡ Some c.in-Some.caller.now = slice_get_read o.callers.items (vec_len o.callers) c.from.result c.in-Some.caller.now count within c.in-Some.ensures.value in
    (caller_of o.config o.world o.benches.items o.callers.items c.from.result c.from-2.result c.args.number c.in-Some.caller.now c.from.ensures c.from-2.ensures c.self.invariant.0 at).1

pub invariant_of-self-2 : goal.invariant_of-self-2
invariant_of-self-2 g c =
    let o = c.self.inside in
    let t = c.try_next-tried in
    let count : vec_len o.callers ≡ length o.callers.items = search rules in
    let within : c.from.result < vec_len o.callers = c.in-Some.ensures.variant.0 refl in
    let at : slice_get o.callers.items c.from.result ≡ Some c.in-Some.caller.now = slice_get_read o.callers.items (vec_len o.callers) c.from.result c.in-Some.caller.now count within c.in-Some.ensures.value in (
      (turned_at c.args.self.now o.config o.world t.new.world o.benches.items o.callers.items c.from.result c.from-2.result c.args.number c.args.now c.in-Some.caller.now t.new.caller t.new.value.bytes t.result
          c.self.view_is c.from.ensures c.from-2.ensures c.self.invariant.0 at t.ensures.ok t.ensures.err t.ensures.sound).0,
      t.ensures.value,
    )

pub returns-clause-interleaves : goal.returns-clause-interleaves
returns-clause-interleaves g c =
    let o = c.self.inside in
    let t = c.try_next-tried in
    let count : vec_len o.callers ≡ length o.callers.items = search rules in
    let within : c.from.result < vec_len o.callers = c.in-Some.ensures.variant.0 refl in
    let at : slice_get o.callers.items c.from.result ≡ Some c.in-Some.caller.now = slice_get_read o.callers.items (vec_len o.callers) c.from.result c.in-Some.caller.now count within c.in-Some.ensures.value in
    (turned_at c.args.self.now o.config o.world t.new.world o.benches.items o.callers.items c.from.result c.from-2.result c.args.number c.args.now c.in-Some.caller.now t.new.caller t.new.value.bytes t.result
    c.self.view_is c.from.ensures c.from-2.ensures c.self.invariant.0 at t.ensures.ok t.ensures.err t.ensures.sound).0

pub returns-clause-goes_on : goal.returns-clause-goes_on
returns-clause-goes_on g c =
    let o = c.self.inside in
    let t = c.try_next-tried in
    let count : vec_len o.callers ≡ length o.callers.items = search rules in
    let within : c.from.result < vec_len o.callers = c.in-Some.ensures.variant.0 refl in
    let at : slice_get o.callers.items c.from.result ≡ Some c.in-Some.caller.now = slice_get_read o.callers.items (vec_len o.callers) c.from.result c.in-Some.caller.now count within c.in-Some.ensures.value in
    (turned_at c.args.self.now o.config o.world t.new.world o.benches.items o.callers.items c.from.result c.from-2.result c.args.number c.args.now c.in-Some.caller.now t.new.caller t.new.value.bytes t.result
    c.self.view_is c.from.ensures c.from-2.ensures c.self.invariant.0 at t.ensures.ok t.ensures.err t.ensures.sound).1

pub returns-clause-fronted : goal.returns-clause-fronted
returns-clause-fronted g c =
    let o = c.self.inside in
    let t = c.try_next-tried in
    let count : vec_len o.callers ≡ length o.callers.items = search rules in
    let within : c.from.result < vec_len o.callers = c.in-Some.ensures.variant.0 refl in
    let at : slice_get o.callers.items c.from.result ≡ Some c.in-Some.caller.now = slice_get_read o.callers.items (vec_len o.callers) c.from.result c.in-Some.caller.now count within c.in-Some.ensures.value in
    let f = fronted_at c.args.self.now o.config o.world t.new.world o.benches.items o.callers.items c.from.result c.from-2.result c.args.number c.args.now c.in-Some.caller.now t.new.caller t.new.value.bytes t.result
    c.self.view_is c.from.ensures c.from-2.ensures at (search rules) t.ensures.ok in
    subst (λ (r : Result Answer NoMemory). IfOk r (IsFronted c.args.self.now (core_data o.config t.new.world o.benches.items (slice_set o.callers.items c.from.result t.new.caller)) c.args.number c.args.now)) (sym c.answer_of.ensures) f

pub returns-clause-err : goal.returns-clause-err
returns-clause-err g c =
    let o = c.self.inside in
    let t = c.try_next-tried in
    let count : vec_len o.callers ≡ length o.callers.items = search rules in
    let within : c.from.result < vec_len o.callers = c.in-Some.ensures.variant.0 refl in
    let at : slice_get o.callers.items c.from.result ≡ Some c.in-Some.caller.now = slice_get_read o.callers.items (vec_len o.callers) c.from.result c.in-Some.caller.now count within c.in-Some.ensures.value in
    let s = front_spared c.args.self.now o.config o.world t.new.world o.benches.items o.callers.items c.from.result c.args.number c.args.now c.in-Some.caller.now t.new.caller t.result
    c.self.view_is c.from.ensures at (search rules) t.ensures.err t.ensures.memory in
    let last = core_data o.config t.new.world o.benches.items (slice_set o.callers.items c.from.result t.new.caller) in
    subst (λ (r : Result Answer NoMemory). OnErr r (Spares c.args.self.now last × TurnTakes c.args.self.now c.args.number c.args.now)) (sym c.answer_of.ensures) s

pub returns-in_default-clause-goes_on : goal.returns-in_default-clause-goes_on
returns-in_default-clause-goes_on g c = stays_on _ _ (search rules)

pub returns-then-now-ge-END_OF_MOMENTS-clause-goes_on : goal.returns-then-now-ge-END_OF_MOMENTS-clause-goes_on
returns-then-now-ge-END_OF_MOMENTS-clause-goes_on g c =
    let o = c.self.inside in
    let count : vec_len o.callers ≡ length o.callers.items = search rules in
    let within : c.from.result < vec_len o.callers = c.in-Some.ensures.variant.0 refl in
    let at : slice_get o.callers.items c.from.result ≡ Some c.in-Some.caller.now = slice_get_read o.callers.items (vec_len o.callers) c.from.result c.in-Some.caller.now count within c.in-Some.ensures.value in
    caller_back c.args.self.now o.config o.world o.benches.items o.callers.items c.from.result c.in-Some.caller.now c.self.view_is at

pub returns-in_default-clause-fronted : goal.returns-in_default-clause-fronted
returns-in_default-clause-fronted g c =
    let o = c.self.inside in
    let count : vec_len o.callers ≡ length o.callers.items = search rules in
    let late : c.from.result < vec_len o.callers → ⊥ = λ within. let e = c.in_default.ensures.variant.1 within in absurd (cc) in
    (search rules, NoCaller (no_caller c.args.self.now o.config o.world o.benches.items o.callers.items c.from.result c.args.number (vec_len o.callers) c.self.view_is c.from.ensures count late))
