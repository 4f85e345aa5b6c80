-- The states and items of members through C.
pub mod Members
