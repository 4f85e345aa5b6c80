-- What the entries answer that no function below does: through the record in a slice, and in a range of the buffer.
pub mod Block
pub mod Group
pub mod Check
pub mod Walks
pub mod Chains
pub mod Same
