-- What turning a cluster asks and promises, its laws, and how tight it is.
pub mod Turned
pub mod Laws
pub mod Determined
