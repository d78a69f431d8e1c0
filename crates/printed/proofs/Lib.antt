-- Laws of printed lines, of the lines of a text, and of its pages.
pub mod LineLaws
pub mod TextLaws
pub mod PageLaws
