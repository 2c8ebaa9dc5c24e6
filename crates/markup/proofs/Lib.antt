pub mod Kept
pub mod Filling
pub mod Ending
pub mod Digits
pub mod Joined
pub mod Nesting
pub mod Back
