-- When an SC of a run succeeds, by the notices of the run and by its events.
pub mod ScHistory
pub mod Allows
