-- What the proofs of several functions use.
mod LoopLaws
mod EventLaws
pub mod ReplayLaws
mod BoardLaws
