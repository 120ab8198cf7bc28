pub mod Numbers
pub mod Claims
pub mod Seats
pub mod Pieces
pub mod views
