pub mod LineLaws
pub mod RuleLaws
pub mod Worked
pub mod Written
