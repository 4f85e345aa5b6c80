-- What readers of columns have before them, and what they say of it: one column, whether a state is inside, keys_vals, several columns in
-- step. Read them in this order; worked values stand in proofs/.
pub mod InStep
pub mod Inside
pub mod KeysVals
pub mod Zip
