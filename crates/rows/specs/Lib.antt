-- Rows of a board's log against the machine.
pub mod Row
pub mod Replay
pub mod Ready
pub mod Numbers
