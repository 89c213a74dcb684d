-- The history that a reservation stands for.
pub mod History
