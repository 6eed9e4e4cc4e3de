pub mod WalkLemmas
pub mod TextLemmas
pub mod WriteLemmas
pub mod PoolLemmas
pub mod CallLemmas
pub mod OwnedLemmas
