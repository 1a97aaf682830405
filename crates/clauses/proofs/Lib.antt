-- The laws of a clause: its places, and the step at its head.
pub mod MiddlePlaces
pub mod ClausePlaces
pub mod HeadSteps
pub mod KeptEnds
