mod Places
pub mod Answering
pub mod Growing
pub mod Times
