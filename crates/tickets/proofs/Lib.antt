-- Laws of tickets, and that an ask which is never committed leaves all calls that follow as if it had not been.
pub mod Laws
pub mod Void
pub mod NeverCommitted
