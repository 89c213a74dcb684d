-- What a step may change: the register that a row shows of it, and the bytes that it may write; and all of it put back.
pub mod Rd
pub mod Reach
pub mod Back
