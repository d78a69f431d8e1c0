-- The definitions, in the order to read: the answers that each call can give, what stays as it was, and demand 1 for every call.
pub mod Answers
pub mod Kept
pub mod Demand1
