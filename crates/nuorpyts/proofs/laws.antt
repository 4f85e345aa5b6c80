-- One file of laws for each subject.
pub mod Block
pub mod Group
pub mod Walks
pub mod Scanned
pub mod Check
pub mod ScanLeft
pub mod Same
pub mod Held
pub mod Standing
pub mod Chains
pub mod ChainTies
