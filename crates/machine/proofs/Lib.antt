-- The laws of refusals 1 and 2.
pub mod StateLaws
