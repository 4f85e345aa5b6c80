-- Protocol Buffers' messages, as definitions, from its encoding document and document 01, section 1. Read them in this order.
pub mod Payload
pub mod Open
pub mod Message
pub mod Answers
