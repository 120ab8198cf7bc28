-- How contracts see what the code keeps of expressions. Nothing here is a definition of the product's, and none is made of it.
pub mod Turning
pub mod Walks
