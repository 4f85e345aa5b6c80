-- The numbers of an element, as they pass through C.
pub mod Element
