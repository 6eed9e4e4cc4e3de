pub mod FirstFrameLemmas
pub mod HeldBytesLemmas
pub mod DivisionLemmas
pub mod StreamLemmas
pub mod ResponseLemmas
