-- The laws that other crates cite, each module named by its subject.
pub mod Keys
pub mod Chaining
pub mod Finding
pub mod Adding
pub mod AddedRows
pub mod Linking
pub mod MaskSets
pub mod KeptWords
pub mod KeptSets
pub mod ClearedMarks
