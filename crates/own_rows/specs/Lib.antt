-- A move on its group's own rows is the move of that group in the panel: rows and totals taken out and put back, what the two calls see, their answers,
-- and the totals. Each file uses those above it.
pub mod PutBack
pub mod Alike
pub mod Answers
pub mod Totals
