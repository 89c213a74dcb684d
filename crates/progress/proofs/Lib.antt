-- What a step at a word of a loop comes to, demand 3, its premise in terms of events, and that the claim is not empty.
pub mod WrapLaws
pub mod Does
pub mod Retry
pub mod Alone
pub mod Examples
