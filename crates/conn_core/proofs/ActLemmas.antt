-- What a connection leaves to others it doesn't answer.
use Rattle.std.proofs.Common.{◌≡◌, ℕ, ◌<◌, Bool, true, false, nat_lt, if◌then◌else◌, List, [], Result, Ok, Err, refl, sym, ap, ◌∙◌, rules}
use Rattle.ep_model.specs.declared.data.CallData.{CallData}
use Rattle.ep_model.specs.Statuses.{not_my_vbucket}
use Rattle.mcbp_frame.specs.declared.frame.FrameData.{FrameData}
use Rattle.mcbp_ops.specs.declared.op.Bad.{Bad}
use Rattle.mcbp_ops.specs.declared.op.OpData.{OpData}
use Rattle.mcbp_ops.specs.declared.op.OpData.TheVariants as ops
use Rattle.mcbp_ops.specs.Ops.{op_of}
use Rattle.mcbp_ops.specs.Text.{status_text, value_text}
use Rattle.conn_core.specs.declared.act.ActData.TheVariants.{Answered, Engine, Stat}
use Rattle.conn_core.specs.declared.hello.Features.{Features}
use Rattle.conn_core.specs.Hello.{asks_seqno, granted}
use Rattle.conn_core.specs.Acts.{act_of, act_of_op, own_text, own_text_of_op, features_after, features_after_op}

engine_silent_op : (vbuckets : ℕ) (f : FrameData) (op : Result OpData Bad) (call : CallData) → Engine call ≡ act_of_op vbuckets f op → own_text_of_op vbuckets f op ≡ []
engine_silent_op vbuckets f (Err bad) call e = cc
engine_silent_op vbuckets f (Ok (ops.Engine found)) call e =
    elim (nat_lt f.vbucket vbuckets) as (λ b. Engine call ≡ (if b then Engine found else Answered) → (if b then [] else status_text f not_my_vbucket) ≡ []) [ true ↦ λ e. refl | false ↦ λ e. cc ] e
engine_silent_op vbuckets f (Ok ops.Noop) call e = cc
engine_silent_op vbuckets f (Ok ops.Version) call e = cc
engine_silent_op vbuckets f (Ok (ops.Stat group)) call e = cc
engine_silent_op vbuckets f (Ok (ops.Hello asked)) call e = cc
engine_silent_op vbuckets f (Ok ops.Quit) call e = cc

-- nothing is written by the connection for a call that goes on
pub engine_silent : (vbuckets : ℕ) (f : FrameData) (call : CallData) → Engine call ≡ act_of vbuckets f → own_text vbuckets f ≡ []
engine_silent vbuckets f call e = engine_silent_op vbuckets f (op_of f) call e

stat_silent_op : (vbuckets : ℕ) (f : FrameData) (op : Result OpData Bad) (group : List ℕ) → Stat group ≡ act_of_op vbuckets f op → own_text_of_op vbuckets f op ≡ []
stat_silent_op vbuckets f (Err bad) group e = cc
stat_silent_op vbuckets f (Ok (ops.Engine found)) group e =
    elim (nat_lt f.vbucket vbuckets) as (λ b. Stat group ≡ (if b then Engine found else Answered) → (if b then [] else status_text f not_my_vbucket) ≡ []) [ true ↦ λ e. refl | false ↦ λ e. cc ] e
stat_silent_op vbuckets f (Ok ops.Noop) group e = cc
stat_silent_op vbuckets f (Ok ops.Version) group e = cc
stat_silent_op vbuckets f (Ok (ops.Stat found)) group e = refl
stat_silent_op vbuckets f (Ok (ops.Hello asked)) group e = cc
stat_silent_op vbuckets f (Ok ops.Quit) group e = cc

-- nor for statistics
pub stat_silent : (vbuckets : ℕ) (f : FrameData) (group : List ℕ) → Stat group ≡ act_of vbuckets f → own_text vbuckets f ≡ []
stat_silent vbuckets f group e = stat_silent_op vbuckets f (op_of f) group e

engine_features_op : (vbuckets : ℕ) (f : FrameData) (features : Features) (op : Result OpData Bad) (call : CallData) → Engine call ≡ act_of_op vbuckets f op → features_after_op features op ≡ features
engine_features_op vbuckets f features (Err bad) call e = refl
engine_features_op vbuckets f features (Ok (ops.Engine found)) call e = refl
engine_features_op vbuckets f features (Ok ops.Noop) call e = refl
engine_features_op vbuckets f features (Ok ops.Version) call e = refl
engine_features_op vbuckets f features (Ok (ops.Stat group)) call e = refl
engine_features_op vbuckets f features (Ok (ops.Hello asked)) call e = cc
engine_features_op vbuckets f features (Ok ops.Quit) call e = refl

-- a call changes no feature
pub engine_features : (vbuckets : ℕ) (f : FrameData) (features : Features) (call : CallData) → Engine call ≡ act_of vbuckets f → features_after features f ≡ features
engine_features vbuckets f features call e = engine_features_op vbuckets f features (op_of f) call e

engine_vbucket_op : (vbuckets : ℕ) (f : FrameData) (op : Result OpData Bad) (call : CallData) → Engine call ≡ act_of_op vbuckets f op → nat_lt f.vbucket vbuckets ≡ true
engine_vbucket_op vbuckets f (Err bad) call e = cc
engine_vbucket_op vbuckets f (Ok (ops.Engine found)) call e = elim (nat_lt f.vbucket vbuckets) as (λ b. Engine call ≡ (if b then Engine found else Answered) → b ≡ true) [ true ↦ λ e. refl | false ↦ λ e. cc ] e
engine_vbucket_op vbuckets f (Ok ops.Noop) call e = cc
engine_vbucket_op vbuckets f (Ok ops.Version) call e = cc
engine_vbucket_op vbuckets f (Ok (ops.Stat group)) call e = cc
engine_vbucket_op vbuckets f (Ok (ops.Hello asked)) call e = cc
engine_vbucket_op vbuckets f (Ok ops.Quit) call e = cc

-- a call that goes on has one of so many vBuckets
pub engine_vbucket : (vbuckets : ℕ) (f : FrameData) (call : CallData) → Engine call ≡ act_of vbuckets f → f.vbucket < vbuckets
engine_vbucket vbuckets f call e = let lt = engine_vbucket_op vbuckets f (op_of f) call e in search (rules, lt)

-- a Hello is answered by what it was granted
pub hello_text : (vbuckets : ℕ) (f : FrameData) (asked : List ℕ) (seqno : Bool) → Ok (ops.Hello asked) ≡ op_of f → seqno ≡ asks_seqno asked → own_text vbuckets f ≡ value_text f (granted (record { seqno = seqno }))
hello_text vbuckets f asked seqno is asks =
    ap (λ (op : Result OpData Bad). own_text_of_op vbuckets f op) (sym is)
    ∙ ap (λ (b : Bool). value_text f (granted (record { seqno = b }))) (sym asks)
