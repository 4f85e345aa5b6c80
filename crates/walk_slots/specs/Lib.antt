-- The walk through C.
pub mod Slot
pub mod Held
