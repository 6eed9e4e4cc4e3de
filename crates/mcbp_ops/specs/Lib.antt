pub mod Table
pub mod Checks
pub mod Ops
pub mod Text
pub mod Laws
