pub mod Attentive
