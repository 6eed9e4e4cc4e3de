pub mod ListLemmas
pub mod PlaceLemmas
pub mod NodeLemmas
pub mod QueueLemmas
pub mod StripeLemmas
pub mod ShowLemmas
pub mod WriteLemmas
