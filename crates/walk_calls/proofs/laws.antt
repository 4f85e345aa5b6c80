-- One file of laws for each subject.
pub mod Steps
pub mod Fills
pub mod Messages
pub mod Chain
