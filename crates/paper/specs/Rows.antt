-- The inputs of document 01's rows, the rows that are values, and what no row pins: a slip in a definition is refused here.
pub mod Cases
pub mod Values
pub mod Guards
