-- What is brought along; then what a bond, a site and all sites add, and that this is the change of the energy.
pub mod Gain
pub mod Law
pub mod Contract
pub mod Listed
pub mod Determined
