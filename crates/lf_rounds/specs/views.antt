-- How contracts see the code's own data: nobody has to believe it, and no definition uses it.
pub mod Ending
pub mod Kept
pub mod Noting
pub mod Reading
pub mod Rising
pub mod Standings
pub mod Workers
pub mod Working
