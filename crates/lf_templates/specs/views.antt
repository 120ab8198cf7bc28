-- How contracts see the data of the code. They define nothing.
pub mod Steps
