pub mod PartsLaws
pub mod SlotsAsked
pub mod WritesLaws
pub mod MessageParts
pub mod CallsLaws
