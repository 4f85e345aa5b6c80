-- What the definitions say of concrete values: first, so that a check that refuses one says so first.
pub mod Worked
-- The laws that proofs here cite.
pub mod laws
