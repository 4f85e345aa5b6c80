-- What a walk has ahead, over any buffer, record and state; what the steps on the way to it say; and demand 3: runs of any length over two
-- blocks. Read them in this order.
pub mod State
pub mod Walk
pub mod Said
pub mod Moves
pub mod Shows
pub mod Run
pub mod Whole
pub mod Same
