-- What the tests of what was found lean on; what is asked past the tests; blocks of sites; the form that grows; those that label; from what they leave to
-- the answer; that there is one.
pub mod Tested
pub mod Asked
pub mod Blocks
pub mod Grown
pub mod Labelled
pub mod Answered
pub mod Determined
