pub mod EventLog
pub mod History
pub mod World
pub mod Buckets
