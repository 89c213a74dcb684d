-- The events of a case.
pub mod Events
pub mod Rules
pub mod Rows
