pub mod Crossing
mod Tallies
mod Told
pub mod Steps
mod Arms
pub mod Cursor
pub mod Advance
mod Moves
pub mod Texts
pub mod Bound
pub mod Kept
mod Fronts
mod RawSteps
mod RawArms
mod RawAdvance
pub mod RawBound
pub mod RawKept
