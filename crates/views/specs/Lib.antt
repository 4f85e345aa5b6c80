-- What wire.rs reads of messages: each message's slots by name and by type, as its view hands them out. Definitions from osmformat.proto and
-- document 01, section 2; what a view makes of each field is in `fields`.
pub mod Slots
pub mod Node
pub mod Way
pub mod Relation
pub mod DenseNodes
pub mod DenseInfo
pub mod Info
