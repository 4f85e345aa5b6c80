-- One file of laws for each subject.
pub mod Held
pub mod Slot
pub mod Back
