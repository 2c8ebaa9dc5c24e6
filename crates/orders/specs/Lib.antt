pub mod Faults
pub mod Kinds
pub mod Reading
pub mod Writing
pub mod Loading
pub mod Example
