-- What a caller reads from the answers of `capi`.
pub mod Stops
pub mod Values
