-- What reservations learn of each event.
pub mod Notices
pub mod Exact
