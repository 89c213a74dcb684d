-- What the version of A decides of an event, a run and a replay, and what the setting misaligned does of an event.
pub mod Versions
pub mod Misaligned
