-- What the program builds.
pub mod Build
