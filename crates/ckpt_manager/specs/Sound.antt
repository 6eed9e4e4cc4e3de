-- What is true of every queue.
use Rattle.std.specs.Prelude.{ℕ, ◌≡◌, ◌≤◌, ◌<◌, ◌+◌, List, [], ◌∷◌, length, All, None}
use Rattle.std.specs.List.{find}
use Rattle.ep_model.specs.Limits.{IsKey, IsValue}
use Rattle.ep_model.specs.Plain.{IsSound}
use Rattle.ckpt_items.specs.declared.data.ItemData.{ItemData}
use Rattle.ckpt_items.specs.Items.{blocks_of, is_of}
use Rattle.ckpt_manager.specs.declared.data.QueueData.{QueueData}
use Rattle.ckpt_manager.specs.Queue.{held}

-- the numbers rise, and are above n
abbrev pub RiseAbove : ℕ → List ItemData → Type 0
RiseAbove n [] = Unit {0}
RiseAbove n (i ∷ is) = (n < i.meta.seqno) × RiseAbove i.meta.seqno is

-- no key has two items
abbrev pub HaveOwnKeys : List ItemData → Type 0
HaveOwnKeys [] = Unit {0}
HaveOwnKeys (i ∷ is) = (find (is_of i.key) is ≡ None) × HaveOwnKeys is

pub record IsSoundQueue (q : QueueData) : Type 0 where
  pub greatest : IsSound q.high q.maxcas
  pub backup : q.persisted ≤ q.cursor
  pub front : q.cursor ≤ q.high
  pub numbers : RiseAbove 0 (held q)
  pub highest : All (λ (i : ItemData). i.meta.seqno ≤ q.high) (held q)
  pub unstored : All (λ (i : ItemData). q.persisted < i.meta.seqno) q.last
  pub measured : All (λ (i : ItemData). i.meta.len ≡ length i.value) (held q)
  pub within : All (λ (i : ItemData). IsKey i.key × IsValue i.value) (held q)
  pub keys : HaveOwnKeys q.last
  pub some : 1 ≤ q.ckpt_max
  pub bound : q.ckpt_max ≤ 100000
  pub few : length q.last ≤ q.ckpt_max
  pub ids : q.id + length q.last ≤ q.high + 1
  pub unnamed : q.named ≡ []
  pub room : blocks_of (held q) ≤ q.blocks
  pub most : q.blocks ≤ 16777216
