-- Ways of reading, which define nothing: what the code computes, where a definition is a relation. Laws tie them to the definitions.
pub mod Selectors
