-- The definitions, in the order to read: what the replica's records add to a group of replicas, the group as the C firmware sees it, demand 3 with power
-- cycles for both, that replicas come back from their records, that the firmware's histories are what its calls leave, and demand 3 with events asked first.
pub mod Recorded
pub mod Firmware
pub mod Demand3
pub mod ComesBack
pub mod Meaning
pub mod Asks
