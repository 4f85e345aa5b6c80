-- What a call of the walk hands out through C, and what chains of calls do.
pub mod Steps
pub mod Shown
pub mod Fills
pub mod Chain
