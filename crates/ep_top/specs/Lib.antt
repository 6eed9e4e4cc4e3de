pub mod AnswersCall
pub mod End
pub mod Exchange
pub mod Responder
pub mod Laws
pub mod Outside
pub mod Session
pub mod Stand
