-- Which bond a line belongs to, what a list makes of a table and a table of a list, what both functions answer, and the laws of these.
pub mod Bonds
pub mod Listed
pub mod Cases
pub mod Answer
pub mod Fills
pub mod Filling
pub mod Listing
pub mod Determined
pub mod RoundTrip
