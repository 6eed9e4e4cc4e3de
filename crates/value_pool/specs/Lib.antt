pub mod Pools
pub mod Layout
pub mod Owned
