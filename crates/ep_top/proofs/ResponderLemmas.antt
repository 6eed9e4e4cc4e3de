-- A responder goes on by one event, and by one answer.
use Rattle.std.proofs.Common.{◌≡◌, ℕ, ◌+◌, ◌-◌, ◌<◌, ◌≤◌, Bool, true, false, List, [], ◌∷◌, ◌++◌, length, take, drop, refl, sym, ap, ◌∙◌, subst, Option, IfSome, append_assoc, add-zero, length-append, arith}
use Rattle.std.proofs.lemmas.List.{append-nil, take-append-le, length-drop}
use Rattle.std.proofs.Math.Seq.{drop-append_seam, take-length}
use Rattle.std.specs.Prelude.{Some, Result, Ok, Err, OnErr}
use Rattle.ep_model.specs.declared.call.Reply.{Reply}
use Rattle.ep_model.specs.declared.data.CallData.{CallData}
use Rattle.ep_model.specs.declared.data.EventData.{EventData}
use Rattle.ep_model.specs.declared.data.OutData.{OutData}
use Rattle.ep_model.specs.declared.data.EventData.TheVariants.{Called, Opened}
use Rattle.ep_model.specs.World.{World}
use Rattle.ep_model.specs.Answer.{answer, apply, Effect, Nothing, Puts, Sets}
use Rattle.ep_model.specs.Front.{empty_start, begun, world_of}
use Rattle.ep_model.specs.Legal.{May, IsLegal}
use Rattle.ep_model.proofs.EffectLemmas.{call_told}
use Rattle.hold_stage.proofs.ViewLemmas.{frame_after}
use Rattle.ep_model.proofs.HistoryLemmas.{after-append, legal-push, legal-bare}
use Rattle.vb_world.specs.History.{events_of, under}
use Rattle.vb_world.proofs.HistoryLemmas.{events_of-push, under-append}
use Rattle.mcbp_frame.specs.declared.frame.FrameData.{FrameData}
use Rattle.mcbp_ops.specs.Text.{reply_text}
use Rattle.conn_core.specs.declared.act.ActData.{ActData}
use Rattle.conn_core.specs.declared.act.ActData.TheVariants as acts
use Rattle.conn_core.specs.declared.conn.Conn.{Conn}
use Rattle.conn_core.specs.declared.hello.Features.{Features}
use Rattle.conn_core.specs.Conns.{IsNew, out_room}
use Rattle.conn_core.specs.Acts.{own_text, features_after}
use Rattle.conn_core.proofs.ActLemmas.{engine_features, engine_vbucket}
use Rattle.ep_top.specs.declared.responder.Responder.{Responder}
use Rattle.ep_top.specs.AnswersCall.{AnswersCall}
use Rattle.conn_core.specs.Exchange.{act_event, act_text, is_quit}
use Rattle.ep_top.specs.Exchange.{vbuckets, only_caller, act_in}
use Rattle.ep_top.specs.Responder.{session_config, session_front, IsLegalHistory, ResponderIsSound, Responds}

-- a session's documents are known
is_told : (events : List EventData) → (world_of (session_front events)).told ≡ true
is_told events = (frame_after (begun (session_front [])) events).told

-- an answered call stands at the end of a legal history, whose world is then the one that the call leaves
world_after_call : (world : World) (events : List EventData) (caller now : ℕ) (call : CallData) (reply : Reply) (value : List ℕ)
    → world ≡ world_of (session_front events) → apply world (answer world call now).effect ≡ world_of (session_front (events ++ Called caller call now reply value ∷ []))
world_after_call world events caller now call reply value e =
    ap (λ (w : World). apply w (answer w call now).effect) e
    ∙ ap (λ (effect : Effect). apply (world_of (session_front events)) effect) (sym (call_told (world_of (session_front events)) call now reply (is_told events)))
    ∙ sym (after-append (begun (session_front [])) events (Called caller call now reply value ∷ []))

may_call : (world : World) (events : List EventData) (caller now : ℕ) (call : CallData) (reply : Reply) (value : List ℕ)
    → world ≡ world_of (session_front events) → world.opened ≡ true → reply ≡ (answer world call now).reply → value ≡ (answer world call now).value
    → May (session_front events) (Called caller call now reply value)
unfolding May
may_call world events caller now call reply value e opened r v = record {
  opened = sym (ap (λ (w : World). w.opened) e) ∙ opened;
  reply_is = λ _. r ∙ ap (λ (w : World). (answer w call now).reply) e;
  value_is = λ _. v ∙ ap (λ (w : World). (answer w call now).value) e;
}

-- one event more of vBucket 0
events_after : (old new : List (ℕ × EventData)) (event : EventData) → new ≡ old ++ (0, event) ∷ [] → events_of 0 new ≡ events_of 0 old ++ event ∷ []
events_after old new event e = ap (events_of 0) e ∙ events_of-push 0 old event

history_after : (old new : List (ℕ × EventData)) (event : EventData) → IsLegalHistory old → new ≡ old ++ (0, event) ∷ [] → May (session_front (events_of 0 old)) event → IsLegalHistory new
history_after old new event h e may = record {
  only =
      e ∙ ap (λ (l : List (ℕ × EventData)). l ++ (0, event) ∷ []) h.only ∙ sym (under-append 0 (events_of 0 old) (event ∷ []))
      ∙ ap (under 0) (sym (events_after old new event e));
  legal = subst (λ (l : List EventData). IsLegal (session_front l)) (sym (events_after old new event e)) (legal-push (session_front (events_of 0 old)) event h.legal may);
}

-- nothing is legal, and of vBucket 0
no_history : IsLegalHistory []
no_history = record { only = refl; legal = legal-bare session_config 0 (Some empty_start) }

-- no effect closes a vBucket
pub opened-apply : (w : World) (effect : Effect) → (apply w effect).opened ≡ w.opened
opened-apply w Nothing = refl
opened-apply w (Puts key doc) = refl
opened-apply w (Sets state) = refl

-- the responder stays sound behind a call
pub sound_after_call : (old new : Responder) (sorted : Conn) (frame : FrameData) (call : CallData) (now : ℕ) → ResponderIsSound old
    → sorted.out.spare + length sorted.out.bytes ≡ old.conn.out.spare + length old.conn.out.bytes
    → AnswersCall frame call now old.plain new.plain old.history new.history sorted new.conn → ResponderIsSound new
sound_after_call old new sorted frame call now s room c = record {
  world =
      c.world ∙ world_after_call old.plain (events_of 0 old.history) 0 now call c.reply c.value s.world
      ∙ ap (λ (l : List EventData). world_of (session_front l)) (sym (events_after old.history new.history (Called 0 call now c.reply c.value) c.noted));
  legal = history_after old.history new.history (Called 0 call now c.reply c.value) s.legal c.noted
      (may_call old.plain (events_of 0 old.history) 0 now call c.reply c.value s.world s.opened c.replied c.shown);
  opened = ap (λ (w : World). w.opened) c.world ∙ opened-apply old.plain (answer old.plain call now).effect ∙ s.opened;
  answers = c.out_room ∙ room ∙ s.answers;
}

only_vbucket : (vbucket : ℕ) → vbucket < vbuckets → 0 ≡ vbucket
only_vbucket vbucket below = omega arith

-- a call was answered
pub answered_call : (f : FrameData) (m next : ℕ → Option ℕ) (old new : Responder) (sorted : Conn) (call : CallData) (now : ℕ)
    → IfSome (m 0) (λ t. now ≡ t) → ((k : ℕ) → next k ≡ m (1 + k)) → acts.Engine call ≡ act_in f
    → sorted.out.bytes ≡ old.conn.out.bytes ++ own_text vbuckets f → sorted.features ≡ features_after old.conn.features f
    → AnswersCall f call now old.plain new.plain old.history new.history sorted new.conn → Responds f m next false old new
answered_call f m next old new sorted call now told asked act text features c = record {
  now = now;
  reply = c.reply;
  value = c.value;
  told = told;
  asked = asked;
  noted =
      c.noted ∙ ap (λ (vbucket : ℕ). old.history ++ (vbucket, Called 0 call now c.reply c.value) ∷ []) (only_vbucket f.vbucket (engine_vbucket vbuckets f call act))
      ∙ ap (λ (a : ActData). old.history ++ act_event only_caller f.vbucket a now c.reply c.value) act;
  text =
      c.text ∙ ap (λ l. l ++ reply_text f c.reply c.value sorted.features.seqno) text
      ∙ append_assoc old.conn.out.bytes (own_text vbuckets f) (reply_text f c.reply c.value sorted.features.seqno)
      ∙ ap (λ l. old.conn.out.bytes ++ (own_text vbuckets f ++ l))
      (ap (λ (fs : Features). reply_text f c.reply c.value fs.seqno) (features ∙ engine_features vbuckets f old.conn.features call act)
      ∙ ap (λ (a : ActData). act_text old.conn.features f a c.reply c.value) act);
  features = c.features ∙ features;
  quits = ap (λ (a : ActData). is_quit a) (sym act);
}

no_reply : Reply
no_reply = record { status = 0; cas = 0; flags = 0; uuid = 0; seqno = 0 }

-- a frame was answered that is no call: nothing was noted, and behind the connection's own answer stands `text`
pub answered_frame : (f : FrameData) (m next : ℕ → Option ℕ) (old new : Responder) (sorted : Conn) (act : ActData) (text : List ℕ) (quit : Bool) (now : ℕ)
    → IfSome (m 0) (λ t. now ≡ t) → ((k : ℕ) → next k ≡ m (1 + k)) → act ≡ act_in f
    → ((reply : Reply) → act_event only_caller f.vbucket act now reply [] ≡ []) → ((reply : Reply) → act_text old.conn.features f act reply [] ≡ text) → is_quit act ≡ quit
    → sorted.out.bytes ≡ old.conn.out.bytes ++ own_text vbuckets f → sorted.features ≡ features_after old.conn.features f
    → new.history ≡ old.history → new.conn.out.bytes ≡ sorted.out.bytes ++ text → new.conn.features ≡ sorted.features → Responds f m next quit old new
answered_frame f m next old new sorted act text quit now told asked is event shown quits own features history bytes kept = record {
  now = now;
  reply = no_reply;
  value = [];
  told = told;
  asked = asked;
  noted =
      history ∙ sym (append-nil old.history) ∙ ap (λ l. old.history ++ l) (sym (event no_reply))
      ∙ ap (λ (a : ActData). old.history ++ act_event only_caller f.vbucket a now no_reply []) is;
  text =
      bytes ∙ ap (λ l. l ++ text) own ∙ append_assoc old.conn.out.bytes (own_text vbuckets f) text
      ∙ ap (λ l. old.conn.out.bytes ++ (own_text vbuckets f ++ l)) (sym (shown no_reply) ∙ ap (λ (a : ActData). act_text old.conn.features f a no_reply []) is);
  features = kept ∙ features;
  quits = ap (λ (a : ActData). is_quit a) (sym is) ∙ quits;
}

empty_room : (o : OutData) → o.bytes ≡ [] → o.spare + length o.bytes ≡ o.spare
empty_room o none = ap (λ (l : List ℕ). o.spare + length l) none ∙ add-zero o.spare

-- a responder that has opened and did nothing else
pub sound_fresh : (f : Responder) → f.history ≡ [] ++ (0, Opened) ∷ [] → f.plain ≡ record (begun (session_front [])) { opened = true }
    → IsNew f.conn → f.conn.out.spare ≡ out_room → ResponderIsSound f
unfolding May
sound_fresh f noted plain new out = record {
  world = plain ∙ ap (λ (l : List EventData). world_of (session_front l)) (sym (events_after [] f.history Opened noted));
  legal = history_after [] f.history Opened no_history noted (record { put = refl; unopened = refl });
  opened = ap (λ (w : World). w.opened) plain;
  answers = empty_room f.conn.out new.out ∙ out;
}

pub err_three : {T E A B C : Type 0} (r : Result T E) → A → B → C → OnErr r (A × B × C)
err_three (Ok x) a b c = tt
err_three (Err e) a b c = (a, b, c)

pub err_four : {T E A B C D : Type 0} (r : Result T E) → A → B → C → D → OnErr r (A × B × C × D)
err_four (Ok x) a b c d = tt
err_four (Err e) a b c d = (a, b, c, d)

-- what stands behind bytes that end there
behind : (from : ℕ) (begun value all : List ℕ) → from ≡ length begun → all ≡ begun ++ value → drop from all ≡ value
behind from begun value all place is = ap (λ (n : ℕ). drop n all) place ∙ ap (λ (l : List ℕ). drop (length begun) l) is ∙ drop-append_seam begun value

-- a slice to the end
pub to_end : (from : ℕ) (bytes all : List ℕ) → bytes ≡ all → take (length bytes - from) (drop from bytes) ≡ drop from all
to_end from bytes all is =
    ap (λ (n : ℕ). take n (drop from bytes)) (sym (length-drop from bytes)) ∙ take-length (drop from bytes) ∙ ap (λ (l : List ℕ). drop from l) is

-- what stands in front of them
before : (at : ℕ) (old begun value all : List ℕ) → at ≡ length old → take (length old) begun ≡ old → length old ≤ length begun → all ≡ begun ++ value → take at all ≡ old
before at old begun value all place kept short is =
    ap (λ (n : ℕ). take n all) place ∙ ap (λ (l : List ℕ). take (length old) l) is ∙ take-append-le (length old) begun value short ∙ kept

-- a call was answered behind the room for its reply's head, and noted from there
pub answered_behind : (f : FrameData) (call : CallData) (now : ℕ) (world world' : World) (noted noted' : List (ℕ × EventData)) (old new : Conn) (reply : Reply)
    (at from head : ℕ) (begun shown all : List ℕ)
    → at ≡ length old.out.bytes → take (length old.out.bytes) begun ≡ old.out.bytes → length begun ≡ length old.out.bytes + head → from ≡ length begun
    → all ≡ begun ++ (answer world call now).value → shown ≡ drop from all
    → reply ≡ (answer world call now).reply → world' ≡ apply world (answer world call now).effect
    → noted' ≡ noted ++ (0, Called 0 call now reply shown) ∷ []
    → new.out.bytes ≡ take at all ++ reply_text f reply (drop (at + head) all) old.features.seqno
    → new.features ≡ old.features → new.out.spare + length new.out.bytes ≡ old.out.spare + length old.out.bytes
    → AnswersCall f call now world world' noted noted' old new
answered_behind f call now world world' noted noted' old new reply at from head begun shown all place kept long ends is slice replied effect event text features room =
    let value = (answer world call now).value in
    let place_is : at + head ≡ from = omega (arith, place, long, ends) in
    let short : length old.out.bytes ≤ length begun = omega (arith, long) in
    record {
      reply = reply;
      value = shown;
      replied = replied;
      shown = slice ∙ behind from begun value all ends is;
      world = effect;
      noted = event;
      text =
          text ∙ ap (λ l. l ++ reply_text f reply (drop (at + head) all) old.features.seqno) (before at old.out.bytes begun value all place kept short is)
          ∙ ap (λ l. old.out.bytes ++ reply_text f reply l old.features.seqno) (ap (λ (n : ℕ). drop n all) place_is ∙ sym slice);
      features = features;
      out_room = room;
    }

-- at an error behind it the room alone is left
pub left_over : (old begun all value : List ℕ) → take (length old) begun ≡ old → length old ≤ length begun → all ≡ begun ++ value
    → (take (length old) all ≡ old) × (length old ≤ length all)
left_over old begun all value kept long is =
    let size : length all ≡ length (begun ++ value) = ap (λ (l : List ℕ). length l) is in
    (before (length old) old begun value all refl kept long is, omega (arith, size, length-append begun value))
