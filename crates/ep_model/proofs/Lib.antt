pub mod DecimalLemmas
pub mod EffectLemmas
pub mod HistoryLemmas
pub mod PlainAnswerLemmas
pub mod PlainLemmas
pub mod ReadBackLemmas
pub mod TouchLemmas
