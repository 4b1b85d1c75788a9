-- A visit's turn, and a whole growth, by the rule that bonds are judged by.
mod Turns
mod Whole
