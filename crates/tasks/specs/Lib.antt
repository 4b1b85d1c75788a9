-- A sweep's plan and a task's share of it, then parts of buffers, then that each function has one result.
pub mod Plan
pub mod Parts
pub mod Determined
