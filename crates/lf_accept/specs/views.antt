-- How contracts see what the steps of the code have found: nobody has to believe it, and no definition uses it.
pub mod Checked
