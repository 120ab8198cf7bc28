-- How contracts see the code's own data: nobody has to believe it, and no definition uses it.
pub mod Bits
pub mod Cut
pub mod Mentioned
pub mod MentionedAlong
pub mod PatternCache
pub mod TextMaps
pub mod TextSets
pub mod UniverseParts
