pub mod MadeChanges
pub mod WideLists
pub mod DividedChanges
pub mod ProvedChanges
