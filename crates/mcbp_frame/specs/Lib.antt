pub mod Header
pub mod Feeder
pub mod Frames
pub mod Division
pub mod Response
pub mod Laws
pub mod Stream
pub mod Piece
