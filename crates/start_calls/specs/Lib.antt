-- Where calls over an element's references, tags and members start.
pub mod Kind
pub mod Starts
