-- How contracts see the code's own data. It defines nothing that has to be believed.
pub mod Making
