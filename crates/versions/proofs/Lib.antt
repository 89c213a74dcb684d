-- What the version of A decides of an event, a run and a replay, and what it doesn't; and the setting misaligned, of an event and of a list of events.
pub mod Observed
pub mod Versions
pub mod Calls
pub mod Misaligned
