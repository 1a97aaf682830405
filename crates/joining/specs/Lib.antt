-- What rule 2 asks for and adds.
pub mod Answers
pub mod AnswerSteps
pub mod Joined
pub mod KeptAnswers
pub mod Bodies
pub mod Standings
