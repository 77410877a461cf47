mod Bounds
mod Headers
mod Long
mod Telling
