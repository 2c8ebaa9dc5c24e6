pub mod Columns
pub mod Groups
pub mod Texts
pub mod Table
