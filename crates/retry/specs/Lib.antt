-- Retry loops: document 01, "Retry loops".
pub mod Loop
pub mod Reasons
pub mod Versions
