-- Laws of numbers of 64 bits, of which bytes are a replica with tickets, of the tickets' part, and of what the calls give.
pub mod Halves
pub mod Typed
pub mod Judged
pub mod TicketsLaws
pub mod MakeLaws
pub mod CommitLaws
pub mod AskLaws
pub mod StepLaws
pub mod Keeps
