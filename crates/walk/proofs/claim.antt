-- Demand 3 of document 01: from what a walk of an accepted block has ahead to what whole runs of it hand out, over two blocks. One file for each
-- subject, in the order that they stand on each other: `Listed` has the law that the walk is the listing, `Claim` the claim.
pub mod Streams
pub mod Whole
pub mod Place
pub mod Texts
pub mod Tags
pub mod Members
pub mod Infos
pub mod Accepted
pub mod Loose
pub mod Dense
pub mod Entered
pub mod Group
pub mod Block
pub mod Listed
pub mod Told
pub mod Metadata
pub mod Starts
pub mod Runs
pub mod Sub
pub mod Record
pub mod Same
pub mod Claim
pub mod Tie
