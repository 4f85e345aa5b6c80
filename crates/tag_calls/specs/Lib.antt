-- The states and items of tags through C.
pub mod Tags
