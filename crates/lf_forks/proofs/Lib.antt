pub mod ForkTests
pub mod HeldParts
pub mod MadeByForks
pub mod Puts
pub mod Recorded
pub mod Several
pub mod Told
