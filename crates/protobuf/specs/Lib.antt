-- Protocol Buffers' wire format, as definitions, from its encoding document and document 01, section 1. Read them in this order.
pub mod Refusal
pub mod Read
pub mod Varint
pub mod Tag
pub mod Stream
pub mod Column
pub mod Short
pub mod Answers
