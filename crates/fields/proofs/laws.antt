-- One file of laws for each file of definitions; `Within` and `Whole` say where the parts of a view stand.
pub mod Outcome
pub mod Part
pub mod Parts
pub mod View
pub mod Within
pub mod Whole
