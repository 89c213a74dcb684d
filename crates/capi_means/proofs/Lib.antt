-- What the contracts of `capi` come to for a caller.
pub mod Means
pub mod Stops
pub mod Values
pub mod ReplayMeans
pub mod Boards
