-- How contracts see the code's own data. It defines nothing.
pub mod Search
pub mod Listing
pub mod Buckets
