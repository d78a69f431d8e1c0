pub mod Opening
pub mod Wrong
