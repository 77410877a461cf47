pub mod Eras
