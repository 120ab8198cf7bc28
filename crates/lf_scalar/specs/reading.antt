-- A way of reading scalars, which defines nothing: what the code computes, function by function. Laws prove that it reads exactly the scalars and breaches of `Scalars.antt`.
pub mod Begins
pub mod Plain
pub mod Quoted
pub mod Block
pub mod Body
pub mod Styles
