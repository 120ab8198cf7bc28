-- How contracts see the code's own data. It defines nothing.
pub mod ForkTests
pub mod Holding
pub mod NameMarks
pub mod Uses
