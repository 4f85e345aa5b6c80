-- One file of laws for each file of definitions, and one for digits of numbers.
pub mod Place
pub mod Read
pub mod Varint
pub mod Tag
pub mod Stream
pub mod Column
pub mod Part
