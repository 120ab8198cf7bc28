-- How contracts see the code: lists before they are put in order, and what is kept of the parts of an expression. They define nothing of strict evaluation.
pub mod Apart
pub mod Lending
pub mod Paired
pub mod Evaluated
pub mod Replaced
pub mod Running
pub mod Selected
pub mod Signed
pub mod Stored
