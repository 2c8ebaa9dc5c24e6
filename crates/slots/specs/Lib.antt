pub mod Refusals
pub mod Slots
