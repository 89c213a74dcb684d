-- Who lost a reservation to an event.
pub mod Broken
pub mod Shown
