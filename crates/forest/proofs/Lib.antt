-- Laws of the forest, of a list of sites, of the bonds that are joined, of the numbering pass, and of the whole; each file stands after those that it uses.
mod Forest
mod Lists
mod Bonds
mod Flatten
mod Whole
