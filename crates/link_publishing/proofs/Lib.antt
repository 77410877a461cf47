mod Telling
mod Values
