-- The definitions, in the order to read: fields, singles, tickets, what a line calls for, and the frames that lines sent.
pub mod Fields
pub mod Singles
pub mod Tickets
pub mod Events
pub mod Frames
