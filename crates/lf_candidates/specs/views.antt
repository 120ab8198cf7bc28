-- How contracts see the code's own data. It defines nothing.
pub mod ClassTexts
pub mod Packed
pub mod Told
