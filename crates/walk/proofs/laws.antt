-- One file of laws for each subject.
pub mod Inside
pub mod Ahead
pub mod Quiet
pub mod Enter
pub mod Steps
pub mod Walking
