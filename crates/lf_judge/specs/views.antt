-- How contracts see the code's own data: nobody has to believe it, and no definition uses it.
pub mod Accepting
pub mod AtHand
pub mod Checking
pub mod RulesFound
pub mod NamePositions
