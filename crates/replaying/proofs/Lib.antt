-- What the definitions say of concrete values: first, so that a check that refuses one says so first.
mod Worked
-- The laws that proofs here cite.
mod laws
