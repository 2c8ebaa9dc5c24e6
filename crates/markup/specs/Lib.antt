pub mod Forests
pub mod Cut
pub mod Held
pub mod Marks
pub mod Closing
pub mod Reading
pub mod Samples
