-- The definitions, in the order to read: what asks, commits and steps give, of a replica with tickets beside it; that asking and committing give what the
-- step gives; and these calls as calls at one box.
pub mod Asking
pub mod AskThenCommit
pub mod AsCalls
