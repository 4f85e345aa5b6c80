-- One file of laws for each subject.
pub mod Steps
pub mod Tags
pub mod Members
