-- The definitions that the contracts of `alu` and of the crates above it cite.
pub mod Alu
pub mod Amo
pub mod Pair
