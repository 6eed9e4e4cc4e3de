pub mod CursorLemmas
