-- What the contracts of `loop_line` cite.
pub mod Line
