-- What the bonds' functions ask and promise: the tables, a table in the making; then how tight that is, and laws for callers.
pub mod Table
pub mod Row
pub mod Determined
pub mod Laws
