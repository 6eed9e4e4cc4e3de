-- What a connection does with a frame by itself, and what it leaves to do.
use Rattle.std.specs.Prelude.{ℕ, nat_lt, if◌then◌else◌, ◌+◌, ◌≤◌, List, [], length, Result, Ok, Err, codes}
use Rattle.ep_model.specs.History.{call_data}
use Rattle.ep_model.specs.Limits.{IsWithin}
use Rattle.ep_model.specs.Statuses.{success, not_my_vbucket}
use Rattle.mcbp_frame.specs.declared.frame.FrameData.{FrameData}
use Rattle.mcbp_ops.specs.declared.op.Bad.{Bad}
use Rattle.mcbp_ops.specs.declared.op.OpData.{OpData}
use Rattle.mcbp_ops.specs.declared.op.OpData.TheVariants as ops
use Rattle.mcbp_ops.specs.Ops.{op_of, bad_status}
use Rattle.mcbp_ops.specs.Text.{IsFormOf, is_silent, status_text, value_text}
use Rattle.conn_core.specs.declared.act.Act.{Act}
use Rattle.conn_core.specs.declared.act.Act.TheVariants as acts
use Rattle.conn_core.specs.declared.act.ActData.{ActData}
use Rattle.conn_core.specs.declared.act.ActData.TheVariants.{Answered, Quit, Engine, Stat}
use Rattle.conn_core.specs.declared.hello.Features.{Features}
use Rattle.conn_core.specs.Hello.{asks_seqno, granted}

-- what is left to do, without where its bytes lie
abbrev pub act_data : Act → ActData
act_data acts.Answered = Answered
act_data acts.Quit = Quit
act_data (acts.Engine call form) = Engine (call_data call)
act_data (acts.Stat group) = Stat group.now

-- a call goes on where its vBucket is one of so many
abbrev pub act_of_op : ℕ → FrameData → Result OpData Bad → ActData
act_of_op vbuckets f (Err bad) = Answered
act_of_op vbuckets f (Ok (ops.Engine call)) = if nat_lt f.vbucket vbuckets then Engine call else Answered
act_of_op vbuckets f (Ok ops.Noop) = Answered
act_of_op vbuckets f (Ok ops.Version) = Answered
act_of_op vbuckets f (Ok (ops.Stat group)) = Stat group
act_of_op vbuckets f (Ok (ops.Hello asked)) = Answered
act_of_op vbuckets f (Ok ops.Quit) = Quit

abbrev pub act_of : ℕ → FrameData → ActData
act_of vbuckets f = act_of_op vbuckets f (op_of f)

-- a call that goes on is within its limits, and its frame's extras and key lie in its body
abbrev pub IsReady : FrameData → ActData → Type 0
IsReady f Answered = Unit {0}
IsReady f Quit = Unit {0}
IsReady f (Engine call) = IsWithin call × (f.extras_len + f.key_len ≤ length f.body)
IsReady f (Stat group) = Unit {0}

-- a call that goes on carries the form of its opcode
abbrev pub HasForm : ℕ → Act → Type 0
HasForm opcode acts.Answered = Unit {0}
HasForm opcode acts.Quit = Unit {0}
HasForm opcode (acts.Engine call form) = IsFormOf opcode form
HasForm opcode (acts.Stat group) = Unit {0}

-- the features after a Hello are those that it asks for and that can be granted; nothing else changes them
abbrev pub asked_features : List ℕ → Features
asked_features asked = record { seqno = asks_seqno asked }

abbrev pub features_after_op : Features → Result OpData Bad → Features
features_after_op features (Err bad) = features
features_after_op features (Ok (ops.Engine call)) = features
features_after_op features (Ok ops.Noop) = features
features_after_op features (Ok ops.Version) = features
features_after_op features (Ok (ops.Stat group)) = features
features_after_op features (Ok (ops.Hello asked)) = asked_features asked
features_after_op features (Ok ops.Quit) = features

abbrev pub features_after : Features → FrameData → Features
features_after features f = features_after_op features (op_of f)

-- the answers that a connection gives by itself; a refusal is written also for a quiet opcode
abbrev pub own_text_of_op : ℕ → FrameData → Result OpData Bad → List ℕ
own_text_of_op vbuckets f (Err bad) = status_text f (bad_status bad)
own_text_of_op vbuckets f (Ok (ops.Engine call)) = if nat_lt f.vbucket vbuckets then [] else status_text f not_my_vbucket
own_text_of_op vbuckets f (Ok ops.Noop) = status_text f success
own_text_of_op vbuckets f (Ok ops.Version) = value_text f (codes "ep_server 1")
own_text_of_op vbuckets f (Ok (ops.Stat group)) = []
own_text_of_op vbuckets f (Ok (ops.Hello asked)) = value_text f (granted (asked_features asked))
own_text_of_op vbuckets f (Ok ops.Quit) = if is_silent f.opcode success then [] else status_text f success

abbrev pub own_text : ℕ → FrameData → List ℕ
own_text vbuckets f = own_text_of_op vbuckets f (op_of f)
