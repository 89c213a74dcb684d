-- What an event did, in words, and what reservations learn of it.
pub mod Happened
pub mod Notices
