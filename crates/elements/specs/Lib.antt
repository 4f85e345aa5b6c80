-- What an element of a walk is, and what the steps over its tags, references and members have ahead. Read them in this
-- order; worked values stand in proofs/.
pub mod Steps
pub mod Tags
pub mod References
pub mod Members
pub mod Element
