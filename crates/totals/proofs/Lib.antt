-- Bits as signed numbers, sums that grow, and the bonds of a site.
pub mod Digits
pub mod Sums
pub mod Site
pub mod Paid
pub mod Brings
pub mod Gathered
pub mod Listing
pub mod Fronts
