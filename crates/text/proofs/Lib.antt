pub mod Placed
mod Numbers
pub mod Lines
