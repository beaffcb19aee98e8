pub mod Words
pub mod Numerals
pub mod Written
pub mod ReadLemmas
pub mod LinesLemmas
pub mod Served
pub mod Ends
