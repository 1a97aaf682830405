-- The laws of directories, each module named by its subject.
pub mod Cuts
pub mod AtomsFrom
pub mod BodyWalk
pub mod Numbering
pub mod TermCells
pub mod ShapeVariables
pub mod ClauseWalk
pub mod ClausesWalk
pub mod GoalWalk
pub mod AcceptedWords
pub mod PlacedLaws
pub mod MaskLaws
pub mod BodyNumbers
pub mod ListWalk
pub mod Parts
pub mod ShapeAtoms
pub mod DirectoryLaws
