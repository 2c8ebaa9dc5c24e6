pub mod Deliver
pub mod Lose
pub mod Crash
pub mod Join
pub mod Leave
pub mod Tick
