-- The laws of the meeting of two atoms, of unifiers that are noted, and of rows that a step adds.

pub mod Stepping
pub mod SlotRows
pub mod ShapeAtoms
pub mod Meetings
pub mod FirstVariables
pub mod Appearance
pub mod Bodies
pub mod Emitting
pub mod BodyAtoms
pub mod ShapeLinks
pub mod MarkedSets
pub mod NotedUnifiers
