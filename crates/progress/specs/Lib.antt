-- The claim on retry loops over runs of the machine.
pub mod Claim
