-- The state of the machine.
pub mod State
pub mod Rules
pub mod Ranged
