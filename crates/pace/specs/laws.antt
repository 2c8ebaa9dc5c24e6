-- The law of paces, pace by pace. A pace's law is proved in its impl of the trait, which can cite
-- specs alone: so these lemmas stand here, and all others in proofs.
pub mod Falling
pub mod Halving
pub mod TwoPhase
pub mod Listed
pub mod Cap
