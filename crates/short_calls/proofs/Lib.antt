-- The laws that proofs here and in the crates above cite.
pub mod laws
