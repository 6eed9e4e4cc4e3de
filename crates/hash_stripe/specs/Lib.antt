pub mod Nodes
pub mod Chains
pub mod Stripes
pub mod Looks
pub mod Laws
