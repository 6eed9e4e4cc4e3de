pub mod ShapeLemmas
pub mod ServedLemmas
pub mod TextLemmas
