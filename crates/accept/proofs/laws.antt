-- One file of laws for each subject.
pub mod Group
pub mod Accept
