-- Columns, their bits, and buffers filled from the front; then the promises, what callers need of them, and how tight they are.
pub mod Column
pub mod Bits
pub mod Gauge
pub mod Rows
pub mod Laws
pub mod Determined
