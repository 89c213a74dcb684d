-- What the exported functions answer.
pub mod Answers
pub mod Events
pub mod Replay
pub mod Boards
