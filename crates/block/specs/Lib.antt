-- What a scanned block must meet to be accepted, and what an accepted one says: its listing and its content (document 01, sections 3 and 4),
-- from its bytes alone. Worked blocks, in proofs/, pin each clause. Read them in this order.
pub mod Columns
pub mod Tags
pub mod Infos
pub mod Check
pub mod Strings
pub mod Stored
pub mod Listing
pub mod Metadata
pub mod Content
pub mod Spelled
