-- One file of laws for each subject.
pub mod Starts
pub mod Elements
