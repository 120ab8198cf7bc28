-- Ways of reading, which define nothing: what the code computes, function by function. Laws prove that it reads exactly the tokens and breaches that `Tokens.antt` says.
pub mod Classes
pub mod Runs
pub mod Signs
pub mod Escapes
pub mod Strings
pub mod Steps
pub mod Reads
