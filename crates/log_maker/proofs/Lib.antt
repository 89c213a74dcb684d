-- The row of a step that retires, and the log of steps one after another.
pub mod MadeLaws
pub mod Log
