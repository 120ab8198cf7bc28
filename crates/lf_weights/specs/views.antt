-- How contracts see the code's own data. It defines nothing.
pub mod Masks
