-- What is asked of one bond and what is answered, that this is the paper's rule, and how tight it is.
pub mod Judged
pub mod Drawn
pub mod Ends
pub mod Laws
pub mod Determined
