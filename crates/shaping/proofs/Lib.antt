-- The laws of shapes that are found, added and named, each module named by its subject.
pub mod ShapeSearch
pub mod Links
pub mod ShapeKept
pub mod ShapeAdded
pub mod ShapeNumber
pub mod ShapeNames
pub mod ShapesWalk
pub mod Made
