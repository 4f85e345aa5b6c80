-- The check as it is called, on a buffer and a record. What a block must meet is defined in `block`.
pub mod Accept
