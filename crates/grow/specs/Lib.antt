-- The members of a cluster; the list of them while it grows; the growth, for any rule of bonds; what the functions ask and promise; the pins
-- of a cluster; what is found; the form, and its answers; the cluster written, and the totals brought along; how tight that is.
pub mod Members
pub mod Listed
pub mod Growth
pub mod Spread
pub mod Kept
pub mod Contract
pub mod Pinned
pub mod Finding
pub mod Task
pub mod Formed
pub mod Answered
pub mod Totals
pub mod Determined
