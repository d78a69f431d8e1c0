-- The proofs of demand 3 with power cycles and with events asked first, for the replica and for the calls of the C firmware.
pub mod InOrder
pub mod Quiet
pub mod Refusals
pub mod Replicas
pub mod OnRecords
pub mod Theorem
pub mod Meaning
pub mod Asks
