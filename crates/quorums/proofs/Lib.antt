-- What numbers that 18 does not refuse tell, and that it refuses no two majorities.
pub mod Stand
