-- How contracts see the code's own data. They define nothing.
pub mod Cursor
pub mod Headed
pub mod KeySets
pub mod Parts
pub mod Places
pub mod Quoting
pub mod Shown
pub mod Signs
