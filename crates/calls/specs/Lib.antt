-- What a call through C answers and leaves, over any state and any item; then the states and items of references.
pub mod Calls
pub mod Items
pub mod Slots
pub mod References
