-- Whether there is room for a call, by what is known at one place of a history.
use Rattle.std.specs.Prelude.{◌≡◌, ℕ, ◌+◌, Bool, false, ◌||◌, nat_lt, true, List, Option, Some, None}
use Rattle.std.specs.FinMap as finmap
use Rattle.ep_model.specs.declared.config.Config.{Config}
use Rattle.ep_model.specs.declared.config.Eviction.{Eviction}
use Rattle.ep_model.specs.declared.call.VbState.{VbState}
use Rattle.ep_model.specs.declared.data.CallData.{CallData}
use Rattle.ep_model.specs.declared.data.EventData.{EventData}
use Rattle.ep_model.specs.declared.data.FrontData.{FrontData}
use Rattle.ep_model.specs.Config.{fit_of}
use Rattle.ep_model.specs.Stripes.{stripe_of}
use Rattle.ep_model.specs.World.{Doc, Item, World, empty_world}
use Rattle.ep_model.specs.Answer.{answer}
use Rattle.ep_model.specs.Mutations.{put_by}
use Rattle.ep_model.specs.Front.{world_of, with_event, marked}
use Rattle.ep_model.specs.Checkpoints.{Checkpoints, queued, cut, cut_after, items_above, item_blocks}
use Rattle.ep_model.specs.Quota.{pinned, need, exceeds, is_short}
use Rattle.plain_tally.specs.declared.item.PlainItem.{PlainItem}
use Rattle.plain_tally.specs.Items.{item_data, items_data}

-- the world of an open vBucket with these documents
abbrev pub world_data : Eviction → ℕ → ℕ → VbState → List PlainItem → ℕ → ℕ → ℕ → World
world_data eviction stripes fit state documents high maxcas persisted = record (empty_world 0 fit) {
  docs = finmap.from_entries (items_data documents);
  high = high;
  maxcas = maxcas;
  state = state;
  persisted = persisted;
  opened = true;
  stripes = stripes;
  eviction = eviction;
}

-- the world of an open vBucket with this layout and nothing else
abbrev pub open_world : Config → World
open_world config = record (empty_world 0 (fit_of config)) { opened = true; stripes = config.stripes; eviction = config.eviction }

abbrev pub doc_data : PlainItem → Doc
doc_data item = (item_data item).1

-- the stripe has no room for what a call needs, where it knows what is stored up to a mark
abbrev pub stripe_is_full_at : ℕ → World → ℕ → List ℕ → CallData → ℕ → Bool
stripe_is_full_at blocks w mark key call now = exceeds blocks (pinned w (stripe_of key w.stripes) mark key) (need w key call now)

-- nor have the checkpoints for what it puts
abbrev pub is_overfull_at : ℕ → ℕ → ℕ → Checkpoints → Option Item → Bool
is_overfull_at ckpt_blocks ckpt_max persisted c None = false
is_overfull_at ckpt_blocks ckpt_max persisted c (Some item) = nat_lt ckpt_blocks (item_blocks (items_above persisted (queued ckpt_max item c)))

abbrev pub is_short_at : Config → World → ℕ → Checkpoints → List ℕ → CallData → ℕ → Bool
is_short_at config w mark c key call now =
    stripe_is_full_at config.blocks w mark key call now || is_overfull_at config.ckpt_blocks config.ckpt_max w.persisted c (put_by (answer w call now).effect)

-- At a history's end this is whether the history leaves no room.
abbrev pub ShortAtEnd : Type 0
ShortAtEnd = (f : FrontData) (key : List ℕ) (call : CallData) (now : ℕ)
    → is_short f key call now ≡ is_short_at f.config (world_of f) (marked f (stripe_of key f.config.stripes)) (cut f) key call now

-- An event more cuts the checkpoints so.
abbrev pub CutGrows : Type 0
CutGrows = (f : FrontData) (event : EventData) → cut (with_event f event) ≡ cut_after f.config.ckpt_max (world_of f) (cut f) event
