pub mod MultipleDegrees
pub mod DividedPairs
pub mod PaddedLists
pub mod JournalPlaces
pub mod EntryItems
pub mod RecordedSteps
