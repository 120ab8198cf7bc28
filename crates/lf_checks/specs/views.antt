-- How contracts see the code's own data. It defines nothing.
pub mod Adding
pub mod Cases
pub mod Checked
pub mod Conditions
pub mod Duplicates
pub mod InOrder
pub mod Keys
pub mod LabelCases
pub mod Patterns
pub mod Recorded
pub mod Shown
pub mod Sought
pub mod TemplateCases
