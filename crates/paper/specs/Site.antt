-- One site and its bonds: whether it acts, whether they hold, and what they add to a sum.
pub mod Acting
pub mod Bonds
pub mod Energy
