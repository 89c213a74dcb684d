-- The rows that the model makes.
pub mod Made
