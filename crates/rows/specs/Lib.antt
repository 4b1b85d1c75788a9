-- Document 01's rows as one statement, the moves that they ask for and the proof; then worked cases that no row has.
pub mod Table
pub mod Worked
pub mod FrameCase
pub mod Proved
pub mod Cmr
pub mod Pins
pub mod Refused
pub mod Slips
pub mod SweepRefused
pub mod Swept
pub mod Totals
