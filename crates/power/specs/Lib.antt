-- The definitions, in the order to read: demand 3 with power cycles, what returning must show for it, the base's histories among its own, and
-- demand 3 with events asked first.
pub mod Demand3
pub mod Returns
pub mod Plainly
pub mod Asks
