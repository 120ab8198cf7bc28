pub mod Scalars
pub mod NamesSaid
pub mod Dependence
mod WorkedDependence
