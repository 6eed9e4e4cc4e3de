pub mod Acts
pub mod Exchange
pub mod Conns
pub mod Hello
