-- The laws of rule 1: the call rows of the shapes that unify with a head, newest first, and what their marks give.
pub mod CallRows
pub mod CallWalks
pub mod MetShapes
pub mod MarkWalks
pub mod ShapeVisits
pub mod HeadVisits
