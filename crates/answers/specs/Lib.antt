-- How numbers, records, answers and states pass through C.
pub mod Words
pub mod Codes
pub mod Record
pub mod Group
pub mod Messages
pub mod Views
