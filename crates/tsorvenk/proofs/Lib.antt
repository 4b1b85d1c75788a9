-- What the proofs of several functions use.
mod Told
mod Packed
mod Swept
mod Teams
mod Written
mod Listed
mod Numbered
mod Checked
mod Tasks
