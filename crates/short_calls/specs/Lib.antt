-- What the short way of a call tests.
pub mod Short
