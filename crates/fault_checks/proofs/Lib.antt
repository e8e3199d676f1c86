pub mod Right
pub mod Children
pub mod RefusedNames
pub mod Refusals
pub mod Gathered
pub mod AppliedQuestions
pub mod NamedRefusals
pub mod Counted
pub mod Passed
pub mod Noted
pub mod Beside
pub mod Choices
pub mod Chosen
pub mod Going
pub mod ObligedFacts
pub mod AppliedSteps
pub mod NamedSteps
pub mod ChosenSteps
pub mod ReferenceSteps
pub mod OwnNames
pub mod WalkSteps
mod Checked
pub mod CircleLemmas
mod CircularOrNot
mod CircularAnswers
mod ReadLemmas
pub mod FinishedLemmas
