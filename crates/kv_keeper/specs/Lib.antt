pub mod Batch
pub mod Content
pub mod Kept
pub mod Rows
pub mod Memory
pub mod Desk
