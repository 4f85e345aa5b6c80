-- What the definitions say of concrete values and of every length: first, so that a check that refuses one says so first.
pub mod Worked
pub mod Limits
-- The laws that proofs here and in the crates above cite.
pub mod laws
