-- The definitions, in the order to read: printed lines, what is kept of a box and what an event gives, events asked first, a line played, and a whole
-- script.
pub mod Printing
pub mod Boxes
pub mod Asking
pub mod Play
pub mod Script
