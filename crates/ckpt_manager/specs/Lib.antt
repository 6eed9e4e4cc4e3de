pub mod Queue
pub mod Sound
pub mod View
pub mod Walk
