-- One file of laws for each subject.
pub mod Onward
pub mod Lists
pub mod Sums
pub mod Split
pub mod Said
pub mod Equal
pub mod Accepted
