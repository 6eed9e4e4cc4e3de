-- A call is answered by what it touches alone.
use Rattle.std.proofs.Common.{◌≡◌, ℕ, List, refl}
use Rattle.std.specs.Prelude.{Some, None}
use Rattle.std.specs.FinMap.{get}
use Rattle.ep_model.specs.declared.data.CallData.{CallData}
use Rattle.ep_model.specs.declared.data.CallData.TheVariants as calls
use Rattle.ep_model.specs.World.{World}
use Rattle.ep_model.specs.Answer.{answer}
use Rattle.ep_model.specs.Calls.{key_of}
use Rattle.hold_stage.proofs.ViewLemmas.{SameQueue, SameFrame}

-- a Get by its document and the state
pub get_same : (v w : World) (key : List ℕ) (now : ℕ) → get w.docs key ≡ get v.docs key → w.state ≡ v.state → answer w (calls.Get key) now ≡ answer v (calls.Get key) now
get_same v w key now docs state = rw (docs, state) refl

-- any call on a key by its document and what the queue has
pub keyed_same : (v w : World) (call : CallData) (now : ℕ) (key : List ℕ) → key_of call ≡ Some key → get w.docs key ≡ get v.docs key → SameQueue v w → SameFrame v w → answer w call now ≡ answer v call now
keyed_same v w (calls.Get other) now key is docs q f =
    let e : other ≡ key = cc in get_same v w other now (rw e docs) q.state
keyed_same v w (calls.Store kind other value flags expiration cas) now key is docs q f =
    let e : other ≡ key = cc in let d : get w.docs other ≡ get v.docs other = rw e docs in
    rw (q.state, q.high, q.maxcas, f.fit, f.failovers, d) refl
keyed_same v w (calls.Join front other value cas) now key is docs q f =
    let e : other ≡ key = cc in let d : get w.docs other ≡ get v.docs other = rw e docs in
    rw (q.state, q.high, q.maxcas, f.fit, f.failovers, d) refl
keyed_same v w (calls.Count down other delta initial expiration cas) now key is docs q f =
    let e : other ≡ key = cc in let d : get w.docs other ≡ get v.docs other = rw e docs in
    rw (q.state, q.high, q.maxcas, f.failovers, d) refl
keyed_same v w (calls.Delete other cas) now key is docs q f =
    let e : other ≡ key = cc in let d : get w.docs other ≡ get v.docs other = rw e docs in
    rw (q.state, q.high, q.maxcas, f.failovers, d) refl
keyed_same v w (calls.Touch other expiration fetch) now key is docs q f =
    let e : other ≡ key = cc in let d : get w.docs other ≡ get v.docs other = rw e docs in
    rw (q.state, q.high, q.maxcas, f.failovers, d) refl
keyed_same v w (calls.Observe uuid) now key is docs q f = absurd (cc)
keyed_same v w calls.Failovers now key is docs q f = absurd (cc)
keyed_same v w (calls.SetState state) now key is docs q f = absurd (cc)
keyed_same v w calls.GetState now key is docs q f = absurd (cc)

-- a call without a key by what the queue has
pub unkeyed_same : (v w : World) (call : CallData) (now : ℕ) → key_of call ≡ None → SameQueue v w → SameFrame v w → answer w call now ≡ answer v call now
unkeyed_same v w (calls.Get key) now is q f = absurd (cc)
unkeyed_same v w (calls.Store kind key value flags expiration cas) now is q f = absurd (cc)
unkeyed_same v w (calls.Join front key value cas) now is q f = absurd (cc)
unkeyed_same v w (calls.Count down key delta initial expiration cas) now is q f = absurd (cc)
unkeyed_same v w (calls.Delete key cas) now is q f = absurd (cc)
unkeyed_same v w (calls.Touch key expiration fetch) now is q f = absurd (cc)
unkeyed_same v w (calls.Observe uuid) now is q f = rw (q.state, q.high, q.persisted, f.id, f.failovers) refl
unkeyed_same v w calls.Failovers now is q f = rw (q.state, f.failovers) refl
unkeyed_same v w (calls.SetState state) now is q f = rw q.state refl
unkeyed_same v w calls.GetState now is q f = rw q.state refl
