-- The laws that proofs here cite.
pub mod Texts
pub mod Parted
pub mod Spelled
