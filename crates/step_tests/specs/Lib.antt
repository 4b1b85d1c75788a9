-- What a call's tests look at, and that they have one verdict.
pub mod Call
pub mod Determined
