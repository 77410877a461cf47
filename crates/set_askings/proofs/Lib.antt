mod Sums
mod Hearing
mod Making
mod Sharing
mod Speaking
mod Living
