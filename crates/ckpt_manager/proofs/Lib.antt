pub mod ItemLemmas
pub mod QueueLemmas
pub mod LastLemmas
pub mod RoomLemmas
pub mod CallLemmas
pub mod WalkLemmas
