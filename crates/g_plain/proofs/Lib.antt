-- Lemmas on maps, trees and programs.
pub mod Maps
pub mod TextMaps
pub mod TreeLemmas
pub mod Found
pub mod TreeKept
pub mod StepKept
pub mod StepAnswers
pub mod Fronts
pub mod AskLemmas
pub mod RanByLemmas
pub mod PlainlyLemmas
