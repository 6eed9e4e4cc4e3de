pub mod ChainLemmas
pub mod TableLemmas
pub mod RoomLemmas
pub mod StripeLemmas
pub mod PinLemmas
pub mod CallLemmas
pub mod LeftLemmas
pub mod KeyLemmas
