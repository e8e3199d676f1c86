mod ObjectLemmas
mod Lines
mod Orders
mod Sorting
mod PlainTexts
mod Growing
