-- What a task leaves: spins again, what its totals are brought by, the answer of a call that was tested, and one outcome.
pub mod Spinning
pub mod Kept
pub mod Verdicts
pub mod Determined
