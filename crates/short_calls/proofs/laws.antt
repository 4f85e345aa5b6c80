-- One file of laws for each subject.
pub mod Short
