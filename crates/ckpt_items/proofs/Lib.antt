pub mod ListLemmas
pub mod StoredLemmas
pub mod CallLemmas
