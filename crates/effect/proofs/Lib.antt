-- The laws of the definitions of `specs/`.
pub mod Sound
pub mod Fitting
pub mod Fits
pub mod TrapLaws
pub mod SourcesLaws
