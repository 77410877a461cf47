mod Boots
mod Short
mod Fewness
mod Keeping
mod Entries
mod Placing
mod Assembling
