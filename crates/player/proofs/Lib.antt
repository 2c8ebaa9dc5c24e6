pub mod Turns
pub mod Obeying
pub mod Playing
pub mod Running
pub mod Lengths
pub mod Files
pub mod Reading
mod Example
