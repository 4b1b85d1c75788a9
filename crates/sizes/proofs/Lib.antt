-- Laws for counting; each file stands after those of the list that it uses.
mod Tallies
mod Numbers
mod Ranks
mod Picks
mod Reports
