-- Lookups through the tables, what a table names, and what both come to on what a scan left.
pub mod Lookup
pub mod Named
pub mod Scanned
