-- A move's numbers as one value, buffers that are lent empty, and that there is one answer.
pub mod Rule
pub mod Empty
pub mod Determined
