-- The lines of a run.
pub mod Lines
