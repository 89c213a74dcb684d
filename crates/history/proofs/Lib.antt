-- What the history of events says of a reservation and of an SC.
pub mod History
