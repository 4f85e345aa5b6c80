-- One file of laws for each subject.
pub mod Tags
pub mod ShortTags
pub mod Ended
