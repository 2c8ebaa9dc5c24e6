mod Words
mod Forests
mod Sounds
mod Loops
mod Steps
mod Party
mod Whole
pub mod Scanned
pub mod Shapes
pub mod Growing
pub mod Told
pub mod Found
pub mod Shown
pub mod Once
