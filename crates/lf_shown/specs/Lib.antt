pub mod Silence
pub mod NoneOpen
pub mod Agreement
pub mod Alone
pub mod Laws
