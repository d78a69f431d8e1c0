-- Laws of fields, of singles, of tickets, of readings, of lines that are too long, and of frames in their slots.
pub mod FieldLaws
pub mod SingleLaws
pub mod TicketLaws
pub mod RowLaws
pub mod LongLines
pub mod FrameLaws
