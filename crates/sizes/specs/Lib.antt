-- What the function and its steps promise, and that it allows one answer.
pub mod Contract
pub mod Steps
pub mod Determined
