-- Laws of the slots that the loop fills.
pub mod Slots
