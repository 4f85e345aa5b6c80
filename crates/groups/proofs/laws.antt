-- One file of laws for each file of definitions.
pub mod Classify
pub mod Group
