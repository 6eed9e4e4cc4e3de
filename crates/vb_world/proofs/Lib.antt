pub mod KeptLemmas
pub mod HistoryLemmas
pub mod ListLemmas
pub mod BucketLemmas
pub mod PlaceLemmas
pub mod SoundLemmas
pub mod TurnLemmas
pub mod StageLemmas
