-- What the tables hold, then that this is the paper's rules, then that each promise allows one result.
pub mod Tables
pub mod Laws
pub mod Sight
pub mod Acted
pub mod Determined
