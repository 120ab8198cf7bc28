pub mod Tokens
pub mod Grammar
pub mod Depth
pub mod Answer
pub mod reading
pub mod views
