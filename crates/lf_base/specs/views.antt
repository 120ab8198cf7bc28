-- How contracts see the code's own data: nobody has to believe it, and no definition uses it.
pub mod FileList
pub mod Keyed
pub mod NameSets
pub mod Texts
