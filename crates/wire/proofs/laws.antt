-- One file of laws for each file of definitions, and for each loop or claim that needs laws of its own.
pub mod Tables
pub mod Filling
pub mod Occurrences
pub mod Refusals
pub mod Scan
pub mod Limits
pub mod Room
pub mod Clauses
pub mod Leaves
