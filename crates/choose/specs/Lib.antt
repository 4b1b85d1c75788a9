-- What each site's column becomes, and after it that the promises allow nothing else.
pub mod Chosen
pub mod Determined
