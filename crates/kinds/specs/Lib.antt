-- What a walk has ahead among the elements of one kind in a group, over any buffer and place, and what the steps over them say. Read them
-- in this order; worked values stand in proofs/.
pub mod Dense
pub mod Loose
pub mod Said
