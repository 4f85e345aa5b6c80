-- One file of laws for each subject.
pub mod Members
pub mod ShortMembers
