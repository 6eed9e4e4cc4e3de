pub mod ResponderLemmas
pub mod StandLemmas
pub mod SessionLemmas
pub mod EndLemmas
pub mod WordLemmas
pub mod OneEndLemmas
