-- One file of laws for each subject.
pub mod Items
pub mod Slots
pub mod Ended
pub mod References
