-- The law of paces for the paces that a file may ask for. It is proved in an impl of the trait,
-- which can cite specs alone.
pub mod FilePace
