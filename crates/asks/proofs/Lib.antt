-- Laws of asks and commits, and that asking and committing give what the step gives.
pub mod AskLaws
pub mod CommitLaws
pub mod AskThenCommit
pub mod AsCalls
