-- What was read as a call, the values in it and the backward table; the move; that the promise allows one answer.
pub mod Joined
pub mod Values
pub mod Back
pub mod Run
pub mod Determined
