mod BlockLemmas
mod LastWhole
mod MarkLemmas
mod TableLemmas
pub mod Whole
