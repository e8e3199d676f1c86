mod Cutting
mod Fronts
mod Counting
mod Going
mod Reading
mod Ending
mod AtHand
