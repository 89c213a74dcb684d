-- What each event and each run is answered with, by the tables of 01.
pub mod Refused
pub mod Trapped
pub mod Answers
pub mod Values
pub mod Good
pub mod Runs
