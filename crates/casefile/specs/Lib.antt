-- The case file.
pub mod Table
pub mod Harts
pub mod Case
pub mod Rules
