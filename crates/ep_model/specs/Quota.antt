-- How much of a bucket's memory what isn't stored takes, and when that leaves no room for a call.
use Rattle.std.specs.Prelude.{ℕ, ◌+◌, ◌==◌, Bool, true, false, not, ◌&&◌, ◌||◌, nat_lt, if◌then◌else◌, max, List, length, sum_by, Option, Some, None}
use Rattle.std.specs.Option.{is_none}
use Rattle.std.specs.FinMap as finmap
use Rattle.std.specs.Str.{bytes_eq}
use Rattle.ep_model.specs.declared.config.Eviction.{Eviction}
use Rattle.ep_model.specs.declared.config.Eviction.TheVariants.{Value, Full}
use Rattle.ep_model.specs.declared.data.CallData.{CallData}
use Rattle.ep_model.specs.declared.data.FrontData.{FrontData}
use Rattle.ep_model.specs.Stripes.{stripe_of}
use Rattle.ep_model.specs.World.{Doc, Docs, Item, World, blocks, doc_blocks}
use Rattle.ep_model.specs.Answer.{Effect, answer}
use Rattle.ep_model.specs.Mutations.{put_by}
use Rattle.ep_model.specs.Needs.{needs, own_refusal}
use Rattle.ep_model.specs.Front.{world_of, marked}
use Rattle.ep_model.specs.Checkpoints.{queued, cut, items_above, item_blocks}

-- what memory keeps of a stored document: under value eviction its key
abbrev pub clean_blocks : Eviction → List ℕ → Doc → ℕ
clean_blocks Value key doc = if doc.deleted then 0 else blocks (length key)
clean_blocks Full key doc = 0

-- what can't leave memory of a document: all of one numbered above the stripe's mark
abbrev pub pinned_blocks : Eviction → ℕ → List ℕ → Doc → ℕ
pinned_blocks eviction mark key doc = if nat_lt mark doc.seqno then doc_blocks key doc else clean_blocks eviction key doc

-- the documents of one stripe but for this key's
abbrev pub is_other : ℕ → ℕ → List ℕ → List ℕ → Bool
is_other stripes stripe key other = stripe_of other stripes == stripe && not (bytes_eq other key)

abbrev pub others_in : ℕ → ℕ → List ℕ → Docs → Docs
others_in stripes stripe key docs = finmap.retain_keys docs (is_other stripes stripe key)

abbrev pub pinned_sum : Eviction → ℕ → List Item → ℕ
pinned_sum eviction mark entries = sum_by (λ (entry : Item). pinned_blocks eviction mark entry.0 entry.1) entries

-- the pinned blocks of a stripe that knows what is stored up to a mark, but for this key's
abbrev pub pinned : World → ℕ → ℕ → List ℕ → ℕ
pinned w stripe mark key = pinned_sum w.eviction mark (finmap.entries (others_in w.stripes stripe key w.docs))

abbrev pub blocks_if : Option Item → ℕ
blocks_if None = 0
blocks_if (Some item) = doc_blocks item.0 item.1

-- the blocks of the document that stands and isn't deleted
abbrev pub standing_blocks : List ℕ → Option Doc → ℕ
standing_blocks key None = 0
standing_blocks key (Some doc) = if doc.deleted then 0 else doc_blocks key doc

-- the blocks of the old document, for a call that needs it and isn't refused whatever that is
abbrev pub old_blocks : World → List ℕ → CallData → ℕ
old_blocks w key call =
    if needs w.eviction call && is_none (own_refusal w.fit call) then standing_blocks key (finmap.get w.docs key) else 0

-- the blocks of the document that a call needs in memory, the new one or the old
abbrev pub need : World → List ℕ → CallData → ℕ → ℕ
need w key call now = max (blocks_if (put_by (answer w call now).effect)) (old_blocks w key call)

-- So many blocks more don't fit beside those that can't leave memory. A call that needs none is never refused for it.
abbrev pub exceeds : ℕ → ℕ → ℕ → Bool
exceeds blocks taken more = not (more == 0) && nat_lt blocks (taken + more)

-- whether a stripe has no room for what a call on a key needs
abbrev pub stripe_is_full : FrontData → List ℕ → CallData → ℕ → Bool
stripe_is_full f key call now =
    let stripe = stripe_of key f.config.stripes in
    exceeds f.config.blocks (pinned (world_of f) stripe (marked f stripe) key) (need (world_of f) key call now)

-- whether the checkpoints have no room for the document that a call puts
abbrev pub is_overfull : FrontData → Option Item → Bool
is_overfull f None = false
is_overfull f (Some item) = nat_lt f.config.ckpt_blocks (item_blocks (items_above (world_of f).persisted (queued f.config.ckpt_max item (cut f))))

-- whether there is no room for a call on a key
abbrev pub is_short : FrontData → List ℕ → CallData → ℕ → Bool
is_short f key call now = stripe_is_full f key call now || is_overfull f (put_by (answer (world_of f) call now).effect)
