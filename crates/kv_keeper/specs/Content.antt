-- What a store holds, and what is seen of one whatever keeps it.
use Rattle.std.specs.Prelude.{ℕ, Bool, true, refl, Option, None}
use Rattle.std.specs.Coded.{Coded, code_by, coded×, coded_ℕ, coded_bool, coded_option}
use Rattle.std.specs.FinMap as map
use Rattle.ep_model.specs.World.{Docs}
use Rattle.ep_model.specs.Codes.{coded_key, coded_doc}

pub record Content : Type 0 where
  pub docs : Docs
  pub version : ℕ
  pub high : ℕ
  pub maxcas : ℕ

-- the content of a store that was just made
abbrev pub empty_content : Content
empty_content = record { docs = map.empty; version = 1; high = 0; maxcas = 0 }

-- What is seen of a store. `content` is what it holds, where it tells that. `sure` says that no commit has failed since it was
-- opened; after one that failed `second` is another content that may be the true one, where it tells. `faults` is how often it
-- has failed, `ample` says that its reads never want memory, and `roomy` that its commits don't.
pub record KeeperData : Type 0 where
  pub content : Option Content
  pub second : Option Content
  pub sure : Bool
  pub faults : ℕ
  pub ample : Bool
  pub roomy : Bool

-- a store that tells nothing, and hasn't failed
abbrev pub silent_keeper : KeeperData
silent_keeper = record { content = None; second = None; sure = true; faults = 0; ample = true; roomy = true }

abbrev pub coded_content : Coded Content
coded_content = code_by (Docs × (ℕ × (ℕ × ℕ)))
    (coded× (map.code coded_key coded_doc) (coded× coded_ℕ (coded× coded_ℕ coded_ℕ)))
    (λ c. (c.docs, (c.version, (c.high, c.maxcas))))
    (λ t. record { docs = t.0; version = t.1.0; high = t.1.1.0; maxcas = t.1.1.1 })
    (λ _. refl)

-- the code of what is seen of stores, by which a proof tells them apart
abbrev pub coded_keeper : Coded KeeperData
coded_keeper = code_by (Option Content × (Option Content × (Bool × (ℕ × (Bool × Bool)))))
    (coded× (coded_option coded_content) (coded× (coded_option coded_content) (coded× coded_bool (coded× coded_ℕ (coded× coded_bool coded_bool)))))
    (λ k. (k.content, (k.second, (k.sure, (k.faults, (k.ample, k.roomy))))))
    (λ t. record { content = t.0; second = t.1.0; sure = t.1.1.0; faults = t.1.1.1.0; ample = t.1.1.1.1.0; roomy = t.1.1.1.1.1 })
    (λ _. refl)
