-- One file of laws for each file of definitions, and one for parts that lie within.
pub mod Payload
pub mod Open
pub mod Group
pub mod Message
pub mod Within
