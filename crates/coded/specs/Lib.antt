-- Where choices are numbers, what a move or a sweep by numbers answers, that there is one answer, and the laws.
pub mod Takes
pub mod Answer
pub mod Packed
pub mod Sweep
pub mod Long
pub mod Determined
pub mod Laws
pub mod Refusals
