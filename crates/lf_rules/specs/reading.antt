-- Ways of reading, which define nothing: what the code computes, function by function. Laws prove that it reads exactly what the definitions say.
pub mod Files
