-- Rules in an order, then the paper's ten, then these by name, then what a test of them answers, and each refusal's number.
pub mod Rule
pub mod Rules
pub mod Kept
pub mod Verdict
pub mod Numbers
