pub mod Deafening
