-- The laws of a clause's head in a round: where it stands, the marks on it and those that are kept, the shapes of the calls to it, and what the clause ends in.
pub mod ClauseRows
pub mod AtShapes
pub mod HeadAtoms
pub mod OneShape
pub mod HeadShapes
pub mod HeadMarks
pub mod KeptMarks
pub mod Endings
