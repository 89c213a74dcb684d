-- A log against the model, in the words of 02 [1].
pub mod Reasons
pub mod Written
pub mod Alike
