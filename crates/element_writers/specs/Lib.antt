pub mod ClassFits
pub mod GroupParts
pub mod GroupsAsked
pub mod SavingAsked
pub mod WrittenElements
pub mod LocationAsked
