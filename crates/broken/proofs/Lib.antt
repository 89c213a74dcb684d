-- Who lost a reservation to an event, and how its line tells it.
pub mod Broken
pub mod Shown
