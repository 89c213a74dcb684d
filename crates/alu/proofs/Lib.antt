-- The laws of the definitions of `specs/`, and of what the code leaves.
pub mod AluLaws
pub mod AmoLaws
pub mod PairLaws
pub mod LentLaws
