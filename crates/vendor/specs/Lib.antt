-- What a vendor's pair of spins is answered, and that it is one answer; what our own move writes, what a played move leaves, and what bytes tell of a pair.
pub mod Checked
pub mod Vendor
pub mod Offered
pub mod Observed
pub mod Components
pub mod Determined
pub mod Played
pub mod GroupRows
pub mod OwnFair
pub mod Gauged
pub mod FairBytes
pub mod Asked
