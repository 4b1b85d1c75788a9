-- What a call is handed, and after it which of that each mode and form takes.
pub mod Input
pub mod Takes
pub mod Made
