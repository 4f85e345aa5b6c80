-- What a message's fields come to: parts of the bytes, views by the schemas of osmformat.proto, and what one occurrence of a field does.
-- Definitions from document 01, section 2. Read them in this order.
pub mod Outcome
pub mod Part
pub mod Parts
pub mod View
pub mod Schema
pub mod Slot
pub mod Step
