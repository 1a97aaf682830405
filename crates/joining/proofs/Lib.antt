-- The laws of rule 2: answers listed once each, and cont rows joined with them.
pub mod Joining
pub mod Offsets
pub mod JoinSteps
pub mod PlaceAnswers
pub mod PlaceSteps
pub mod AnswerLists
pub mod AnswerSides
pub mod AnswersOfShape
pub mod AnswersMet
pub mod AnswersOfShapes
pub mod Settling
pub mod Forgetting
pub mod KeptMasks
pub mod KeptPlaces
pub mod BodyRuns
