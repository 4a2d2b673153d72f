pub mod Asking
pub mod AskingExample
pub mod AskingLaws
pub mod Lines
pub mod LinesLaws
pub mod Words
pub mod WordsLaws
