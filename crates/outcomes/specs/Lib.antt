-- What one more answer adds, and that each promise allows one result.
pub mod Adding
pub mod Determined
