-- Strings and groups of a block by their number. Definitions from document 01, section 2.
pub mod Lookup
