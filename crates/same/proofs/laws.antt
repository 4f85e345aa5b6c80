-- One file of laws for each subject.
pub mod Values
pub mod Compared
pub mod Texts
pub mod Stands
pub mod InStep
pub mod Streams
pub mod Tags
pub mod Members
pub mod Heads
pub mod Walks
pub mod Listing
