-- One file of laws for each subject.
pub mod Words
pub mod Signed
pub mod Codes
pub mod Record
pub mod Group
pub mod Messages
