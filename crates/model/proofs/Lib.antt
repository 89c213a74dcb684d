-- The laws of the machine.
pub mod Valid
pub mod AdvanceLaws
pub mod Frame
pub mod Agree
