-- Document 01 from a call's input to its answer; then values that hold the definitions to its table, and that each function has one result.
pub mod Panel
pub mod Site
pub mod Component
pub mod Move
pub mod Refusal
pub mod Answer
pub mod Rows
pub mod Determined
