pub mod CountsUp
