-- What a comparison says, what a step of a stream says, what is compared of tags, members and elements, and when two blocks list the same. Read
-- them in this order; worked values stand in proofs/.
pub mod Compared
pub mod Streams
pub mod Tags
pub mod Members
pub mod Heads
pub mod Walks
pub mod Listing
