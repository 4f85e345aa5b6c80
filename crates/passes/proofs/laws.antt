-- One file of laws for each subject.
pub mod Pairs
pub mod Whole
pub mod Dense
