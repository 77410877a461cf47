mod Short
mod Saying
mod Listing
