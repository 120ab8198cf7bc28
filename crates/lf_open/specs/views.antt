-- How contracts see the code's own data. It defines nothing.
pub mod Adding
pub mod Choosing
pub mod Firsts
pub mod Holding
pub mod InOrder
pub mod Known
pub mod Marks
pub mod Names
pub mod Opens
pub mod ReadNames
pub mod Sides
pub mod Speaking
pub mod Telling
pub mod Told
