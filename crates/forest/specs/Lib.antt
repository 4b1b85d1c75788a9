-- Links and the forest; what the functions and their steps promise; and that it allows one answer.
pub mod Closure
pub mod Forest
pub mod Contract
pub mod Steps
pub mod Determined
