-- One file of laws for each subject.
pub mod Inside
pub mod Dense
pub mod Short
pub mod Viewed
pub mod Loose
