pub mod Walks
pub mod SumsOfProducts
pub mod GrowingLists
pub mod SeenParts
pub mod PlacesAround
pub mod GraphEquations
pub mod GraphValues
