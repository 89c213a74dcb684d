-- What a machine is set to.
pub mod Settings
pub mod Boards
