mod LineFacts
pub mod Allowed
pub mod OneReading
pub mod EntryFacts
pub mod NumberFacts
pub mod Mapped
pub mod NameFacts
pub mod ListFacts
pub mod StopFacts
pub mod DraftFacts
pub mod Constants
pub mod GoodNames
pub mod GoodLists
pub mod Good
pub mod Begun
pub mod LineSteps
pub mod ShortFacts
pub mod ReadFacts
pub mod Formed
pub mod FirstFaults
pub mod Verdicts
pub mod OneDraft
pub mod OneNext
pub mod SomeOutcome
pub mod OneOutcome
mod WrittenLists
mod SystemFacts
mod SystemWritten
mod WrittenNames
mod WrittenEntries
mod WrittenLines
mod WrittenRests
mod WrittenHeads
mod WrittenTaken
mod WrittenSystems
