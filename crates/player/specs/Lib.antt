pub mod Playing
pub mod Notices
pub mod Example
pub mod Faults
pub mod Told
pub mod Program
pub mod FilePace
pub mod laws
