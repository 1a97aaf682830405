-- The laws that other crates cite, each module named by its subject.
pub mod Items
pub mod Frames
pub mod Covering
pub mod TableCovers
pub mod GroundCalls
pub mod LegsRun
pub mod WrongTable
pub mod NoClauses
pub mod AcceptedRuns
pub mod TableRuns
