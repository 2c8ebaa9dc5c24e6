mod Rereading
mod OnlyWritten
mod Records
pub mod Loads
mod Example
