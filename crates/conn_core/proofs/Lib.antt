pub mod ActLemmas
