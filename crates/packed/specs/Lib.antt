-- What a call on bytes is answered; its tests and its forms; through packing it is the call on rows, and which bytes stay; that there is one answer.
pub mod Packed
pub mod Lengths
pub mod Tested
pub mod Grown
pub mod Stepped
pub mod Kept
pub mod Determined
