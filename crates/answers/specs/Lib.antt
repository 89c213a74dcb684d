-- The tables of refusals and traps as 01 has them, when an event is retired, and when a run is refused.
pub mod Refusals
pub mod Causes
pub mod Answered
pub mod Good
pub mod Runs
