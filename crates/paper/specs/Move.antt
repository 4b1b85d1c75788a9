-- What a move does to the spins, in one file.
pub mod Moving
