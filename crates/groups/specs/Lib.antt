-- What is read of a group: its kind, its dense message and its messages of one field. Definitions from document 01, sections 2 and 4.
pub mod Classify
pub mod Group
