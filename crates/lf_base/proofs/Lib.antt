pub mod Answering
pub mod Quotes
pub mod FileList
pub mod Least
pub mod KeyedOrder
pub mod Rows
pub mod Digits
