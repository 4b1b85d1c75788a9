-- What the functions promise; what that says to callers; and that it allows one answer.
pub mod Contract
pub mod Totals
pub mod Facts
pub mod Labelling
pub mod Entry
pub mod Determined
