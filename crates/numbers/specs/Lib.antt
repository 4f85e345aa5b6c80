-- Numbers, as definitions: what bits mean, signed and unsigned, sums and products that wrap, and numbers as little-endian bytes, all over any
-- width. Read them in this order.
pub mod Choose
pub mod Signed
pub mod Little
