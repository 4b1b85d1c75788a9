-- The energy of a single row, then the row as a part of all spins, then that the meter has one answer.
pub mod Row
pub mod Part
pub mod Determined
