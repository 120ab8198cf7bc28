-- How contracts see the code's own data. It defines nothing.
pub mod Following
pub mod Lines
pub mod Naming
pub mod NamingVisits
pub mod Required
pub mod Settings
pub mod Texts
pub mod Ways
pub mod Worlds
