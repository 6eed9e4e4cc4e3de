pub mod TallyLemmas
pub mod RoomLemmas
