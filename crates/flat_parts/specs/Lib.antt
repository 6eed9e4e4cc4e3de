pub mod Nodes
pub mod Steps
pub mod Fits
pub mod Flat
pub mod Looks
pub mod Writes
