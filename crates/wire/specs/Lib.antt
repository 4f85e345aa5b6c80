-- What wire.rs reads of a block: its own fields, its tables and its scan. Definitions from osmformat.proto and document 01, section 2. Read
-- them in this order.
pub mod Block
pub mod Tables
pub mod Scan
